-- The words written stay within the room for them.
use Rattle.std.proofs.Common.{length, ◌≤◌, ◌≡◌}
use Rattle.script.proofs.read_lines.Given as goal

abbrev pub invariant-loop-i : goal.invariant-loop-i
invariant-loop-i l = (l.count ≤ length l.words) × (length l.words ≡ length l.initial.words)
