-- The row is written up to the place that the loop has reached; the last row begins at 4064.
use mathlib.Core.Path.{◌≡◌}
use native.Mathlib.Omega.{arith}
use Rattle.lists.proofs.Written.{written_none, written_more}
use Rattle.tagrows.proofs.write_row.Goals as goal

pub loop-i-init : goal.loop-i-init
loop-i-init c = record { start = c.min-first.ensures; stored = written_none _ _ _ }

pub loop-i-preserved : goal.loop-i-preserved
loop-i-preserved c = let l = c.loop-i in
    record { start = l.invariant.start; stored = written_more _ l.tags _ l.i _ c.child_tag.result (omega arith) c.child_tag.ensures l.invariant.stored }

pub returns : goal.returns
returns c = let l = c.loop-i in
    let e : l.i ≡ 32 = omega arith in rw (e, l.invariant.start) at l.invariant.stored
