-- Where they rise, those counted are the first.
use native.Mathlib.Omega.{arith}
use Rattle.arrays.proofs.Serials.{one_if, one_at_most, split_more}
use Rattle.arrays.proofs.count_below.Goals as goal

pub loop-x-preserved : goal.loop-x-preserved
loop-x-preserved c = let l = c.loop-x in (
  omega (arith, l.invariant.0, one_at_most),
  λ up. split_more _ up c.args.serial l.below _ c.ranges.serial l.auto.below-fits l.invariant.0 c.loop-x-test.true (l.invariant.1 up) _ (one_if _),
)
