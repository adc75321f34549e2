use Rattle.std.proofs.Common.{◌≡◌}
use Rattle.lists.specs.Numbers.{every}
use Rattle.delivery.proofs.Passed.{clear}
use Rattle.delivery.proofs.is_passed.Given as goal

abbrev pub invariant-loop-i : goal.invariant-loop-i
invariant-loop-i l = l.agreed ≡ every l.i (clear l.label l.receiver l.sent l.held)
