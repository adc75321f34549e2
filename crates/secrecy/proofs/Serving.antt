-- Rule 17's test over what is lent, over all identifiers.
use Prim.Native.Nat.{ℕ, ◌^◌, ◌≤◌, ◌<◌, min}
use mathlib.Core.Path.{◌≡◌, ap, ◌∙◌}
use mathlib.Core.Bool.{Bool, false, not, ◌&&◌, ◌||◌}
use Rattle.lists.specs.Numbers.{any}
use Rattle.lists.proofs.Every.{any_capped}
use Rattle.mask.specs.Mask.{has}
use Rattle.mask.proofs.Width.{has_past}
use Rattle.secrecy.specs.Lent.{serves_by}

module _ (kept risked : ℕ) (joins : ℕ → Bool) (small : kept < 2 ^ 32) where
  past : (u : ℕ) → 32 ≤ u → serves_by kept risked joins u ≡ false
  unfolding serves_by
  past u h = ap (λ (b : Bool). b && (not (has u risked) || not (joins u))) (has_past 32 kept u small h)

  -- Nothing past the 32 items of a mask is kept.
  pub none_serves : (limit n : ℕ) → n ≡ min limit 32 → any n (serves_by kept risked joins) ≡ any limit (serves_by kept risked joins)
  none_serves limit n e = ap (λ (k : ℕ). any k (serves_by kept risked joins)) e ∙ any_capped limit 32 (serves_by kept risked joins) past
