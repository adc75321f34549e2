-- Numbers moved down by the library's copy: `shifted`.
use Prim.Native.Nat.{ℕ, ◌+◌, ◌-◌, ◌≤◌, ◌<◌, min}
use mathlib.Core.Path.{◌≡◌, sym, ap, ◌∙◌}
use mathlib.Core.Bool.{and-false}
use mathlib.Core.Logic.{⊎_elim}
use mathlib.Core.List.{List}
use native.Mathlib.Omega.{arith}
use lib.ListN.{length, get_or}
use lib.Dec.{leb}
use borrow.Author.Tests.{lt-ltb, le-ltb, le-leb, lt-leb}
use Rattle.lists.proofs.Tests.{lt_or_le}
use Rattle.blocks.specs.Blocks.{shifted}

module _ (xs : List ℕ) (from to by : ℕ) where
  pub shifted_in : (j : ℕ) → from ≤ j → j < to → shifted xs from to by j ≡ get_or xs (j + by) 0
  unfolding shifted
  shifted_in j h l = rw (le-leb from j h, lt-ltb j to l)

  pub shifted-below : (j : ℕ) → j < from → shifted xs from to by j ≡ get_or xs j 0
  unfolding shifted
  shifted-below j h = rw (lt-leb from j h)

  pub shifted_above : (j : ℕ) → to ≤ j → shifted xs from to by j ≡ get_or xs j 0
  unfolding shifted
  shifted_above j h = rw (le-ltb j to h, and-false (leb from j))

-- A beginning past the end: nothing moves.
shifted_empty : (xs : List ℕ) (from to by j : ℕ) → to ≤ from → get_or xs j 0 ≡ shifted xs from to by j
shifted_empty xs from to by j h =
    ⊎_elim (λ l. sym (shifted-below xs from to by j l)) (λ k. sym (shifted_above xs from to by j (omega arith))) (lt_or_le j from)

-- The end where something stands further on: l places are left.
module _ (xs : List ℕ) (from to by l e : ℕ) (el : l ≡ length xs - by) (ee : e ≡ min to l) where
  end_is : e ≡ min to (length xs - by)
  end_is = ee ∙ ap (min to) el

  -- What was copied down, and the places below and from its end on.
  pub shift_moves : (ys : List ℕ) (n : ℕ) → from < e → n ≡ e - from
      → ((k d : ℕ) → from ≤ k → k < from + n → get_or ys k d ≡ get_or xs (from + by + (k - from)) d)
      → ((k d : ℕ) → k < from → get_or ys k d ≡ get_or xs k d)
      → ((k d : ℕ) → from + n ≤ k → get_or ys k d ≡ get_or xs k d)
      → (j : ℕ) → get_or ys j 0 ≡ shifted xs from (min to (length xs - by)) by j
  shift_moves ys n h en moved below above j =
      ⊎_elim (λ l. below j 0 l ∙ sym (shifted-below xs from e by j l))
      (λ f. ⊎_elim (λ t. moved j 0 f (omega arith) ∙ ap (λ (k : ℕ). get_or xs k 0) (omega arith) ∙ sym (shifted_in xs from e by j f t))
      (λ t. above j 0 (omega arith) ∙ sym (shifted_above xs from e by j t)) (lt_or_le j e)) (lt_or_le j from)
      ∙ ap (λ (e : ℕ). shifted xs from e by j) end_is

  pub shift_none : e ≤ from → (j : ℕ) → get_or xs j 0 ≡ shifted xs from (min to (length xs - by)) by j
  shift_none h j = shifted_empty xs from e by j h ∙ ap (λ (e : ℕ). shifted xs from e by j) end_is

-- Where all of it is there, all of it moves.
pub shifts_all : (xs ys : List ℕ) (from to by : ℕ) → to + by ≤ length xs
    → ((j : ℕ) → get_or ys j 0 ≡ shifted xs from (min to (length xs - by)) by j) → (j : ℕ) → get_or ys j 0 ≡ shifted xs from to by j
shifts_all xs ys from to by h w j = w j ∙ ap (λ (e : ℕ). shifted xs from e by j) within
  where
    within : min to (length xs - by) ≡ to
    within = omega arith
