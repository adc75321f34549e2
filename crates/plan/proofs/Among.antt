-- A test of all numbers of a list, by the numbers that stand in it.
use Prim.Native.Nat.{ℕ}
use mathlib.Core.Path.{◌≡◌, refl}
use mathlib.Core.Logic.{inl, inr}
use mathlib.Core.Bool.{Bool, true}
use mathlib.Core.List.{List, [], ◌∷◌}
use Rattle.lists.specs.Numbers.{all}
use Rattle.lists.proofs.Tests.{and_left, and_right, and_of}
use Rattle.plan.specs.Plan.{Among}

-- A test that holds of all holds of each,
pub among_all : (p : ℕ → Bool) (l : List ℕ) → all p l ≡ true → (x : ℕ) → Among x l → p x ≡ true
unfolding all
among_all p [] e x a = absurd a
among_all p (y ∷ l) e x (inl q) = rw q (and_left (p y) (all p l) e)
among_all p (y ∷ l) e x (inr a) = among_all p l (and_right (p y) (all p l) e) x a

-- and back.
pub all_among : (p : ℕ → Bool) (l : List ℕ) → ((x : ℕ) → Among x l → p x ≡ true) → all p l ≡ true
unfolding all
all_among p [] h = refl
all_among p (y ∷ l) h = and_of (p y) (all p l) (h y (inl refl)) (all_among p l (λ x a. h x (inr a)))
