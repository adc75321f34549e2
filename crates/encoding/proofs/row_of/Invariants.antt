use Rattle.encoding.proofs.Writing.{Writing}
use Rattle.encoding.proofs.row_of.Given as goal

abbrev pub invariant-loop-i : goal.invariant-loop-i
invariant-loop-i l = Writing l.fn.plan l.n l.out l.i
