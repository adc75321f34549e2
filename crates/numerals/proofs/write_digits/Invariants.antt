use Prim.Native.Nat.{◌+◌, ◌-◌, ◌^◌, ◌<◌}
use mathlib.Core.Path.{◌≡◌}
use lib.Seq.{sets}
use Rattle.numerals.specs.Numerals.{spell}
use Rattle.numerals.proofs.write_digits.Given as goal

abbrev pub invariant-loop-i : goal.invariant-loop-i
invariant-loop-i l = (l.rest < 10 ^ (l.width - l.i)) × (sets l.out (l.at + l.i) (spell 10 (l.width - l.i) l.rest) ≡ sets l.initial.out l.at (spell 10 l.width l.n))
