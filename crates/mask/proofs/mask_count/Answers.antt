-- The shifted 1 stays below the width.
use Rattle.mask.proofs.Counted.{count_shifted}
use Rattle.mask.proofs.mask_count.Goals as goal

pub returns : goal.returns
returns c = count_shifted c.args.m c.min.result c.min.ensures
