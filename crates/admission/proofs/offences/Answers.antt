-- The masks of the three rows together.
use Rattle.admission.proofs.Refusals.{offences_gathered}
use Rattle.admission.proofs.offences.Goals as goal

pub returns : goal.returns
returns c = search offences_gathered
