-- As the look-up goes.
use Rattle.planrow.proofs.Lookup.{looked}
use Rattle.planrow.proofs.template_at.Goals as goal

pub returns : goal.returns
returns c = looked _ _ _ c.templates.ensures.parts _ c.get.ensures.lookup.0 c.get.ensures.lookup.1 _ c.and_then.ensures _ c.unwrap_or_default.ensures
