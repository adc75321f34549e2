use Prim.Native.Nat.{◌-◌}
use Rattle.locating.proofs.Lines.{Skipping}
use Rattle.locating.proofs.line_start.Given as goal

abbrev pub invariant-loop : goal.invariant-loop
invariant-loop l = Skipping l.text l.skipped l.start (l.skipped - l.counter)
