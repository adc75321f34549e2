-- Whether a range stands in a list, and whether numbers rise, as the code meets it.
use Prim.Native.Nat.{ℕ, ◌+◌, ◌-◌, ◌≤◌, ◌<◌, min}
use mathlib.Core.Path.{◌≡◌, sym, ap, ap₂, ◌∙◌}
use mathlib.Core.Bool.{Bool, true, false, ◌&&◌}
use mathlib.Core.List.{List, [], ◌∷◌, ◌++◌}
use native.Mathlib.Numerals.{add-one}
use native.Mathlib.Omega.{arith}
use lib.ListN.{length, get_or, length-append}
use lib.Dec.{ltb, leb}
use borrow.Author.Tests.{le-leb, lt-leb, leb-true}
use Rattle.std.proofs.Common.{slice_range}
use Rattle.lists.specs.Numbers.{every}
use Rattle.lists.proofs.Tests.{same_test}
use Rattle.lists.proofs.Every.{every_start, every_told, every_ext}
use Rattle.lists.proofs.Parts.{first_length, first_at}
use Rattle.ranges.specs.Ranges.{rises}

-- The test without the sum.
pub within_not : (len from n : ℕ) → len < n → false ≡ leb (from + n) len
within_not len from n h = sym (lt-leb (from + n) len (omega arith))

pub within_rest : (len from n : ℕ) → n ≤ len → leb from (len - n) ≡ leb (from + n) len
within_rest len from n h =
    same_test (leb from (len - n)) (leb (from + n) len)
    (λ e. le-leb (from + n) len (up (leb-true from (len - n) e)))
    (λ e. le-leb from (len - n) (down (leb-true (from + n) len e)))
  where
    up : from ≤ len - n → from + n ≤ len
    up l = omega arith

    down : from + n ≤ len → from ≤ len - n
    down l = omega arith

-- ---- numbers that rise

-- Each of the first n numbers is below the one after it.
abbrev pub rising_to : List ℕ → ℕ → Bool
rising_to xs n = every n (λ i. ltb (get_or xs i 0) (get_or xs (i + 1) 0))

pub none_rise : (xs : List ℕ) → length xs ≡ 0 → true ≡ rises xs
unfolding rises
none_rise xs e = rw e (every_start _)

module _ (xs : List ℕ) (x : ℕ) (after : List ℕ) (e : xs ≡ x ∷ after) where
  -- A turn: a and b are number n and the one after it.
  pub rising_turn : {A : Type 0} → (ys : List A) (y : A) (a b : ℕ) (fits : Bool) → fits ≡ rising_to xs (length ys)
      → a ≡ get_or xs (length ys) 0 → b ≡ get_or after (length ys) 0 → (fits && ltb a b) ≡ rising_to xs (length (ys ++ (y ∷ [])))
  rising_turn ys y a b fits h ea eb =
      every_told (length ys) _ fits (ltb a b) h (ap₂ ltb ea (eb ∙ next (length ys)))
      ∙ ap (rising_to xs) (sym (length-append ys (y ∷ [])))
    where
      next : (n : ℕ) → get_or after n 0 ≡ get_or xs (n + 1) 0
      next n = sym (ap₂ (λ (l : List ℕ) (k : ℕ). get_or l k 0) e (add-one n))

  pub rising_end : (n : ℕ) (fits : Bool) → fits ≡ rising_to xs n → n ≡ min (length xs) (length after) → fits ≡ rises xs
  unfolding rises
  rising_end n fits h en = h ∙ ap (rising_to xs) (let l = ap length e in omega arith)

-- ---- for callers: the first n numbers of a list

pub first_rises : (xs : List ℕ) (n : ℕ) → n ≤ length xs → rises (slice_range xs 0 n) ≡ rising_to xs (n - 1)
unfolding rises
first_rises xs n there =
    ap (λ (k : ℕ). rising_to (slice_range xs 0 n) (k - 1)) (first_length xs n there)
    ∙ every_ext (n - 1) _ _ (λ i h. ap₂ ltb (first_at xs n there 0 i (omega arith)) (first_at xs n there 0 (i + 1) (omega arith)))
