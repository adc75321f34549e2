use Rattle.layout.proofs.Laying.{Laying}
use Rattle.layout.proofs.lay_templates.Given as goal

abbrev pub invariant-loop-i : goal.invariant-loop-i
invariant-loop-i l = Laying l.plan l.first l.second l.creates l.i
