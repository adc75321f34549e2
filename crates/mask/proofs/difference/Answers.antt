-- a & b is at most a, so nothing wraps; the equation is the definition.
use mathlib.Core.Path.{refl}
use lib.Bits.{and_le_l}
use Rattle.mask.specs.Mask.{without}
use Rattle.mask.proofs.difference.Goals as goal

pub overflow_sub-result : goal.overflow_sub-result
overflow_sub-result c = search and_le_l

pub returns : goal.returns
unfolding without
returns c = refl
