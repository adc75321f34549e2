use Rattle.creation.proofs.Creators.{Gathered}
use Rattle.creation.proofs.created_twice.Given as goal

abbrev pub invariant-loop-x : goal.invariant-loop-x
invariant-loop-x l = Gathered l.plan l.x l.once l.twice
