-- No offending identifier is one of the plan's.
use Rattle.admission.proofs.Refusals.{fits_one}
use Rattle.admission.proofs.is_fitting.Goals as goal

pub returns : goal.returns
returns c = fits_one _ _ _ _ _ _ c.offences.ensures c.lowest_below.ensures.lowest _ c.is_none.ensures
