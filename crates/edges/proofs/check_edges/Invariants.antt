use Rattle.edges.proofs.Forms.{Passed}
use Rattle.edges.proofs.check_edges.Given as goal

abbrev pub invariant-loop-x : goal.invariant-loop-x
invariant-loop-x l = Passed l.plan l.x
