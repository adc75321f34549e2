-- Tests of all elements of a list.
use Prim.Native.Nat.{ℕ, zero, suc}
use mathlib.Core.Path.{◌≡◌, refl}
use mathlib.Core.Bool.{Bool, true}
use mathlib.Core.List.{List, [], ◌∷◌}
use lib.ListN.{get_or}
use Rattle.lists.specs.Numbers.{all}
use Rattle.lists.proofs.Tests.{and_both, and_of}

module _ {A : Type 0} where
  -- What is so of each element and of the default is so at every place.
  pub all_at : (p : A → Bool) (l : List A) (i : ℕ) (d : A) → all p l ≡ true → p d ≡ true → p (get_or l i d) ≡ true
  unfolding all
  all_at p [] i d e h = h
  all_at p (x ∷ l) zero d e h = (and_both (p x) (all p l) e).0
  all_at p (x ∷ l) (suc i) d e h = all_at p l i d (and_both (p x) (all p l) e).1 h

  -- A weaker test.
  pub all_weaken : (p q : A → Bool) → ((x : A) → p x ≡ true → q x ≡ true) → (l : List A) → all p l ≡ true → all q l ≡ true
  unfolding all
  all_weaken p q h [] e = refl
  all_weaken p q h (x ∷ l) e = let r = and_both (p x) (all p l) e in and_of (q x) (all q l) (h x r.0) (all_weaken p q h l r.1)
