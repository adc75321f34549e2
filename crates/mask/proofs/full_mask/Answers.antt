-- There is a mask, and all of them fit.
use Rattle.mask.proofs.Counted.{mask_some, mask_top, mask_next}
use Rattle.mask.proofs.full_mask.Goals as goal

pub overflow_sub-result : goal.overflow_sub-result
overflow_sub-result c = search mask_some

pub overflow_cast-result : goal.overflow_cast-result
overflow_cast-result c = search mask_top

pub returns : goal.returns
returns c = search mask_next
