-- The lowest item of all, where it is below the limit.
use native.Mathlib.Omega.{arith}
use Rattle.offenders.proofs.Masks.{found_below, none_below}
use Rattle.offenders.proofs.lowest_below.Goals as goal

pub returns-then-i-min-clause-lowest : goal.returns-then-i-min-clause-lowest
returns-then-i-min-clause-lowest c = found_below _ _ _ c.lowest_item-i.ensures (omega (arith, c.min.ensures))

pub returns-else-i-min-clause-lowest : goal.returns-else-i-min-clause-lowest
returns-else-i-min-clause-lowest c = none_below _ _ _ c.lowest_item-i.ensures (omega arith) (omega (arith, c.min.ensures))
