-- What is true of each value that a field gives: of a field read on, of one picked by a test, and of numbers and masks.
use Prim.Native.Nat.{ℕ, ◌^◌, ◌≤◌, ◌<◌}
use mathlib.Core.Path.{◌≡◌, refl, subst}
use mathlib.Core.List.{List}
use mathlib.Core.Bool.{Bool, true, false, cond, ◌&&◌}
use native.Mathlib.Omega.{arith}
use lib.ListN.{length}
use lib.Dec.{eqb, leb, ltb}
use borrow.Author.Tests.{leb-true, ltb-true, eqb-true}
use Rattle.lists.proofs.Tests.{and_left, and_right}
use Rattle.field.specs.Fields.{Field, is, bad, and_then, digits, decimal, number, mask}

-- P is true of the field's value, if it has one.
abbrev pub Each : {A : Type 0} → (A → Type 0) → Field A → Type 0
Each {A} P x = (v : A) → x ≡ is v → P v

module _ {A : Type 0} (P : A → Type 0) where
  pub each_is : (v : A) → P v → Each P (is v)
  each_is v h w e = let i : v ≡ w = cc in subst P i h

  pub each_bad : (n : ℕ) → Each P (bad n)
  each_bad n w e = let z : ◌≡◌ {A = ℕ} 0 1 = cc in absurd (omega arith)

  pub each_if : (b : Bool) (x y : Field A) → (b ≡ true → Each P x) → (b ≡ false → Each P y) → Each P (cond b x y)
  each_if true x y h g = h refl
  each_if false x y h g = g refl

  pub each_then : {B : Type 0} (x : Field B) (next : B → Field A) → ((v : B) → x ≡ is v → Each P (next v)) → Each P (and_then x next)
  unfolding and_then
  each_then (is v) next h = h v refl
  each_then (bad n) next h = each_bad n

-- A number that was read is in its range.
pub number_range : (refusal low limit : ℕ) (s : List ℕ) → Each (λ v. (low ≤ v) × (v < limit)) (number refusal low limit s)
unfolding number
number_range refusal low limit s =
    each_then _ (decimal s) _ (λ v e.
    each_if _ (leb low v && ltb v limit) (is v) (bad refusal)
    (λ q. each_is _ v (leb-true low v (and_left (leb low v) (ltb v limit) q), ltb-true v limit (and_right (leb low v) (ltb v limit) q)))
    (λ q. each_bad _ refusal))

-- A mask that was read: so many digits, and no item at its limit or past it.
pub mask_read : (width items : ℕ) (s : List ℕ) → Each (λ m. (length s ≡ width) × (digits 16 0 s ≡ is m) × (m < 2 ^ items)) (mask width items s)
unfolding mask
mask_read width items s =
    each_if _ (eqb (length s) width) _ (bad 2)
    (λ q. each_then _ (digits 16 0 s) _ (λ m e.
    each_if _ (ltb m (2 ^ items)) (is m) (bad 4) (λ p. each_is _ m (eqb-true (length s) width q, e, ltb-true m (2 ^ items) p)) (λ p. each_bad _ 4)))
    (λ q. each_bad _ 2)
