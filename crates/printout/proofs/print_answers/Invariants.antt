use Rattle.std.proofs.Common.{take}
use Rattle.std.specs.Io.KnownBytes.{Appends}
use Rattle.printout.specs.Lines.{answer_lines}
use Rattle.printout.proofs.print_answers.Given as goal

abbrev pub invariant-loop-answer : goal.invariant-loop-answer
invariant-loop-answer g l = Appends (g.W.Write.contents l.initial.out) (g.W.Write.contents l.out) (answer_lines (take l.answer-index l.answers))
