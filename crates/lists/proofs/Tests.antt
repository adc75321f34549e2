-- What a Boolean test says, as plain facts: a test made from two tells of both, and facts of both tell of it.
use Prim.Native.Nat.{ℕ, ◌≤◌, ◌<◌}
use mathlib.Core.Path.{◌≡◌, refl, sym, ◌∙◌}
use mathlib.Core.Bool.{Bool, true, false, not, ◌&&◌, ◌||◌, true≢false, false≢true}
use mathlib.Core.Logic.{◌⊎◌, inl, inr}
use lib.Dec.{ltb}
use borrow.Author.Tests.{ltb-true, ltb-false}
use Rattle.lists.specs.Joins.{both, either}

-- ---- one test

-- A test passes or fails.
pub bool? : (b : Bool) → (b ≡ true) ⊎ (b ≡ false)
bool? true = inl refl
bool? false = inr refl

-- A test that does not pass fails.
pub fails : (b : Bool) → (b ≡ true → ⊥) → b ≡ false
fails true h = absurd (h refl)
fails false h = refl

-- Nothing passes and fails.
pub passes_fails : (b : Bool) → b ≡ true → b ≡ false → ⊥
passes_fails true e h = true≢false h
passes_fails false e h = false≢true e

-- Two tests of which each passes where the other does are equal.
pub same_test : (a b : Bool) → (a ≡ true → b ≡ true) → (b ≡ true → a ≡ true) → a ≡ b
same_test true b f g = sym (f refl)
same_test false true f g = g refl
same_test false false f g = refl

-- An answer that equals x and turns out to be v: x is v.
pub told : {A : Type 0} {r x v : A} → r ≡ x → r ≡ v → x ≡ v
told e h = sym e ∙ h

-- One number is less than another, or is not.
pub lt_or_le : (m n : ℕ) → (m < n) ⊎ (n ≤ m)
lt_or_le m n = go (ltb m n) refl
  where
    go : (b : Bool) → ltb m n ≡ b → (m < n) ⊎ (n ≤ m)
    go true e = inl (ltb-true m n e)
    go false e = inr (ltb-false m n e)

-- ---- and

pub and_left : (a b : Bool) → (a && b) ≡ true → a ≡ true
and_left true b e = refl
and_left false b e = e

pub and_right : (a b : Bool) → (a && b) ≡ true → b ≡ true
and_right true b e = e
and_right false b e = absurd (false≢true e)

pub and_both : (a b : Bool) → (a && b) ≡ true → (a ≡ true) × (b ≡ true)
and_both a b e = (and_left a b e, and_right a b e)

pub and_three : (a b c : Bool) → (a && (b && c)) ≡ true → (a ≡ true) × (b ≡ true) × (c ≡ true)
and_three a b c e =
    let rest = and_right a (b && c) e in
    (and_left a (b && c) e, and_left b c rest, and_right b c rest)

pub and_of : (a b : Bool) → a ≡ true → b ≡ true → (a && b) ≡ true
and_of true b p q = q
and_of false b p q = absurd (false≢true p)

-- ---- or

pub or_left : (a b : Bool) → a ≡ true → (a || b) ≡ true
or_left true b e = refl
or_left false b e = absurd (false≢true e)

pub or_right : (a b : Bool) → b ≡ true → (a || b) ≡ true
or_right true b e = refl
or_right false b e = e

pub or_cases : (a b : Bool) → (a || b) ≡ true → (a ≡ true) ⊎ (b ≡ true)
or_cases true b e = inl refl
or_cases false b e = inr e

pub or_none : (a b : Bool) → (a || b) ≡ false → (a ≡ false) × (b ≡ false)
or_none true b e = absurd (true≢false e)
or_none false b e = (refl, e)

pub or_neither : (a b : Bool) → a ≡ false → b ≡ false → (a || b) ≡ false
or_neither true b p q = absurd (true≢false p)
or_neither false b p q = q

-- ---- one test passes wherever another does

pub imp : (a b : Bool) → (not a || b) ≡ true → a ≡ true → b ≡ true
imp true b e p = e
imp false b e p = absurd (false≢true p)

pub imp_of : (a b : Bool) → (a ≡ true → b ≡ true) → (not a || b) ≡ true
imp_of true b h = h refl
imp_of false b h = refl

-- ---- the joins that stay shut

pub both_left : (a b : Bool) → both a b ≡ true → a ≡ true
unfolding both
both_left = and_left

pub both_right : (a b : Bool) → both a b ≡ true → b ≡ true
unfolding both
both_right = and_right

pub both_of : (a b : Bool) → a ≡ true → b ≡ true → both a b ≡ true
unfolding both
both_of = and_of

pub either_left : (a b : Bool) → a ≡ true → either a b ≡ true
unfolding either
either_left = or_left

pub either_right : (a b : Bool) → b ≡ true → either a b ≡ true
unfolding either
either_right = or_right

pub either_cases : (a b : Bool) → either a b ≡ true → (a ≡ true) ⊎ (b ≡ true)
unfolding either
either_cases = or_cases
