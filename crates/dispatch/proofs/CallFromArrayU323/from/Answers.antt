-- Any other number is a lower.
use Prim.Native.Nat.{ℕ, zero, suc}
use mathlib.Core.Path.{◌≡◌, refl}
use Rattle.machine.specs.Machine.{lower}
use Rattle.machine.specs.State.{call_of}
use Rattle.dispatch.proofs.CallFromArrayU323.from.Goals as goal

lowered : (kind x y : ℕ) → (kind ≡ 0 → ⊥) → (kind ≡ 1 → ⊥) → (kind ≡ 2 → ⊥) → lower x y ≡ call_of kind x y
unfolding call_of
lowered zero x y e f g = absurd (e refl)
lowered (suc zero) x y e f g = absurd (f refl)
lowered (suc (suc zero)) x y e f g = absurd (g refl)
lowered (suc (suc (suc n))) x y e f g = refl

pub returns-in_default : goal.returns-in_default
returns-in_default c = search lowered
