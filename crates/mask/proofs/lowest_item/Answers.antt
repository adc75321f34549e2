-- The machine's count of trailing zeros is the lowest item.
use Rattle.mask.proofs.Width.{trailing_lowest}
use Rattle.mask.proofs.lowest_item.Goals as goal

pub returns : goal.returns
returns c = trailing_lowest 32 c.args.m
