use Rattle.assertions.proofs.Order.{AllSoFar}
use Rattle.assertions.proofs.check_assertions.Given as goal

abbrev pub invariant-loop-i : goal.invariant-loop-i
invariant-loop-i l = AllSoFar l.plan l.policy l.i
