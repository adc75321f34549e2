-- Its parts one after the other.
use Rattle.std.proofs.KnownBytes.{Appends-trans}
use Rattle.printout.specs.Lines.{process_line}
use Rattle.printout.proofs.print_line.Goals as goal

pub returns : goal.returns
unfolding process_line
returns g c = Appends-trans _ _ _ _ _ (Appends-trans _ _ _ _ _ c.in_ok-print_names.ensures c.in_ok-print_row.ensures) c.in_ok-writeln.ensures.bytes
