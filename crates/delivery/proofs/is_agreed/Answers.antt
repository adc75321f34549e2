-- The definition, by the two masks.
use Rattle.delivery.proofs.Passed.{agreed}
use Rattle.delivery.proofs.is_agreed.Goals as goal

pub returns : goal.returns
returns c = search agreed
