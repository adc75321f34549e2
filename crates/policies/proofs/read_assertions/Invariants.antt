use Rattle.text.specs.Cursors.{standing}
use Rattle.policies.proofs.Assertions.{Listing}
use Rattle.policies.proofs.read_assertions.Given as goal

abbrev pub invariant-loop-a : goal.invariant-loop-a
invariant-loop-a l = Listing l.n l.k (standing l.fn.lines) l.a-items (standing l.lines) l.a-index
