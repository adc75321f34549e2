use Rattle.std.proofs.Common.{◌≡◌, length}
use Rattle.text.specs.Cursors.{standing}
use Rattle.reader.proofs.Templates.{Filling}
use Rattle.reader.proofs.read_entries.Given as goal

abbrev pub invariant-loop-i : goal.invariant-loop-i
invariant-loop-i l = Filling l.n l.m (standing l.fn.lines) l.templates l.names (standing l.lines) l.i × (length l.names ≡ 64)
