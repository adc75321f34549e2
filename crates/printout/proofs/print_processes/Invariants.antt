use Rattle.std.specs.Io.KnownBytes.{Appends}
use Rattle.printout.specs.Lines.{process_lines}
use Rattle.printout.proofs.print_processes.Given as goal

abbrev pub invariant-loop-place : goal.invariant-loop-place
invariant-loop-place g l = Appends (g.W.Write.contents l.initial.out) (g.W.Write.contents l.out) (process_lines l.state l.place)
