-- After x templates the masks have what those created once, and again.
use native.Mathlib.Omega.{arith}
use Rattle.creation.proofs.Creators.{gathered_none, gathered_more, gathered_all}
use Rattle.creation.proofs.created_twice.Goals as goal

pub loop-x-init : goal.loop-x-init
loop-x-init c = search gathered_none

pub loop-x-preserved : goal.loop-x-preserved
loop-x-preserved c = gathered_more _ _ _ _ c.loop-x.invariant (omega arith)

pub returns : goal.returns
returns c = record {
  marks = gathered_all _ _ _ _ _ c.loop-x.invariant c.capped-x-end.ensures c.loop-x.auto.x-end c.loop-x-test.false;
  row = λ h. c.loop-x.invariant.row (omega (arith, c.capped-x-end.ensures));
}
