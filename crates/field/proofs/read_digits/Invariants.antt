use Prim.Native.Nat.{◌<◌, ◌^◌}
use mathlib.Core.Path.{◌≡◌}
use lib.ListN.{drop}
use Rattle.field.specs.Fields.{digits}
use Rattle.field.proofs.read_digits.Given as goal

abbrev pub invariant-loop-b : goal.invariant-loop-b
invariant-loop-b l = (l.value < 16 ^ l.b-index) × (digits l.base 0 l.s ≡ digits l.base l.value (drop l.b-index l.s))
