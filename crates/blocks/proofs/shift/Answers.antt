-- Something is moved as far as it stands further on.
use native.Mathlib.Omega.{arith}
use Rattle.blocks.proofs.Shifts.{shift_moves, shift_none}
use Rattle.blocks.proofs.shift.Goals as goal

pub returns-then-from-end : goal.returns-then-from-end
returns-then-from-end c = let m = c.copy_within.ensures.by_index in
    shift_moves _ _ _ _ _ _ c.saturating_sub.ensures c.min-end.ensures _ _ c.if-from-end.true (omega arith) m.0 m.1 m.2

pub returns-else-from-end : goal.returns-else-from-end
returns-else-from-end c = search shift_none
