-- Words copied from one list to another, as the code meets it: all of them where both ranges are there, else none.
use Prim.Native.Nat.{ℕ, ◌+◌, ◌-◌, ◌≤◌, ◌<◌}
use mathlib.Core.Path.{◌≡◌, sym, ap, ap₂, ◌∙◌}
use mathlib.Core.Bool.{Bool, true, false, ◌&&◌, cond}
use mathlib.Core.Logic.{⊎_elim}
use mathlib.Core.List.{List, ◌++◌}
use native.Mathlib.Omega.{arith}
use borrow.Rule.Slice.PartMut.{put_mid}
use lib.ListN.{length, get_or, take, drop, get_or-append}
use lib.Dec.{leb}
use borrow.Author.Tests.{leb-true}
use Rattle.lists.specs.Writes.{written}
use Rattle.std.proofs.lemmas.List.{get_or-append_right, get_or-take, get_or-drop, length-take-le, length-drop}
use Rattle.lists.proofs.Tests.{and_left, and_right, lt_or_le}
use Rattle.lists.proofs.Written.{written_none, written_below, written_in, written_above}
use Rattle.ranges.specs.Ranges.{holds}
use Rattle.blocks.specs.Blocks.{copied}

module _ (words into : List ℕ) (from at n : ℕ) (reads : from + n ≤ length words) (writes : at + n ≤ length into) where
  pasted : (k m : ℕ) → k ≡ n → m ≡ n → (ys : List ℕ) → ys ≡ take m (drop from words)
      → (j : ℕ) → get_or (put_mid at k into ys) j 0 ≡ written into at n (λ i. get_or words (from + i) 0) j
  pasted k m ek em ys ey j =
      ⊎_elim (λ l. get_or-append (take at into) rest 0 j (omega (arith, long)) ∙ get_or-take at into j 0 l ∙ sym (written_below into at n _ j l))
      (λ h. get_or-append_right (take at into) rest at j 0 long h ∙ ⊎_elim (within h) past (lt_or_le j (at + n))) (lt_or_le j at)
    where
      after : List ℕ
      after = drop k (drop at into)

      rest : List ℕ
      rest = ys ++ after

      long : length (take at into) ≡ at
      long = length-take-le at into (omega arith)

      count : length ys ≡ n
      count = ap length ey ∙ length-take-le m (drop from words) (omega (arith, length-drop from words)) ∙ em

      within : at ≤ j → j < at + n → get_or rest (j - at) 0 ≡ written into at n (λ i. get_or words (from + i) 0) j
      within h l =
          get_or-append ys after 0 (j - at) (omega (arith, count)) ∙ ap (λ (zs : List ℕ). get_or zs (j - at) 0) ey
          ∙ get_or-take m (drop from words) (j - at) 0 (omega arith) ∙ get_or-drop from words (j - at) 0
          ∙ sym (written_in into at n _ j h l)

      past : at + n ≤ j → get_or rest (j - at) 0 ≡ written into at n (λ i. get_or words (from + i) 0) j
      past h =
          get_or-append_right ys after n (j - at) 0 count (omega arith) ∙ get_or-drop k (drop at into) (j - at - n) 0
          ∙ get_or-drop at into (k + (j - at - n)) 0 ∙ ap (λ (i : ℕ). get_or into i 0) (omega arith) ∙ sym (written_above into at n _ j h)

-- a and b are the answers of `is_within` for both ranges.
module _ (words into : List ℕ) (from at n : ℕ) (a b : Bool) (ea : a ≡ leb (from + n) (length words)) (eb : b ≡ leb (at + n) (length into)) where
  count_is : (t : Bool) → (a && b) ≡ t → cond t n 0 ≡ copied words from into at n
  unfolding copied holds
  count_is t h = ap (λ (t : Bool). cond t n 0) (sym h ∙ ap₂ ◌&&◌ ea eb)

  reads_there : (a && b) ≡ true → from + n ≤ length words
  reads_there h = leb-true (from + n) (length words) (sym ea ∙ and_left a b h)

  writes_there : (a && b) ≡ true → at + n ≤ length into
  writes_there h = leb-true (at + n) (length into) (sym eb ∙ and_right a b h)

  -- ys is what the range of the source holds, and stands over that of the other.
  pub copies_all : (a && b) ≡ true → (ys : List ℕ) → ys ≡ take ((from + n) - from) (drop from words)
      → (j : ℕ) → get_or (put_mid at ((at + n) - at) into ys) j 0 ≡ written into at (copied words from into at n) (λ i. get_or words (from + i) 0) j
  copies_all h ys ey j =
      pasted words into from at n (reads_there h) (writes_there h) ((at + n) - at) ((from + n) - from) (omega arith) (omega arith) ys ey j
      ∙ ap (λ (k : ℕ). written into at k (λ i. get_or words (from + i) 0) j) (count_is true h)

  pub copies_none : (a && b) ≡ false → (j : ℕ) → get_or into j 0 ≡ written into at (copied words from into at n) (λ i. get_or words (from + i) 0) j
  copies_none h j =
      written_none into at (λ i. get_or words (from + i) 0) j
      ∙ ap (λ (k : ℕ). written into at k (λ i. get_or words (from + i) 0) j) (count_is false h)
