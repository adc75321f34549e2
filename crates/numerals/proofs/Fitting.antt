-- A number in decimal where it fits, and nothing where it does not, as the code meets it: w is its width, b whether it fits.
use Prim.Native.Nat.{ℕ, ◌+◌, ◌^◌, ◌≤◌, ◌<◌}
use mathlib.Core.Path.{◌≡◌, refl, sym, ap, ◌∙◌, subst}
use mathlib.Core.Bool.{Bool, true, false, not, cond}
use mathlib.Core.List.{List, []}
use native.Mathlib.Nat.{add-zero}
use lib.ListN.{length}
use lib.Seq.{sets}
use lib.Dec.{leb}
use borrow.Author.Tests.{leb-true, le-leb, not-true, not-false}
use Rattle.numerals.specs.Numerals.{spell, decimal_width, decimal_of}
use Rattle.numerals.specs.Places.{fitting}
use Rattle.numerals.proofs.Digits.{decimal-length, width_le, width_room}

pub decimal_room : (n w : ℕ) → w ≡ decimal_width n → n < 10000000000 → n < 10 ^ w
decimal_room n w is l = subst (λ (k : ℕ). n < 10 ^ k) (sym is) (width_room n l)

module _ (xs : List ℕ) (at n w : ℕ) (is : w ≡ decimal_width n) (b : Bool) (asked : b ≡ leb (at + w) (length xs)) where
  abbrev Left : List ℕ → ℕ → Type 0
  Left ys r = (ys ≡ sets xs at (fitting xs at (decimal_of n))) × (r ≡ at + length (fitting xs at (decimal_of n)))

  found : (t : Bool) → b ≡ t → fitting xs at (decimal_of n) ≡ cond t (decimal_of n) []
  unfolding fitting
  found t e =
      ap (λ (t : Bool). cond t (decimal_of n) [])
      (ap (λ (k : ℕ). leb (at + k) (length xs)) (decimal-length n ∙ sym is) ∙ sym asked ∙ e)

  pub decimal_none : not b ≡ true → Left xs at
  decimal_none e = rw (found false (not-true b e)) (refl, sym (add-zero at))

  pub decimal_there : not b ≡ false → (w ≤ 10) × (at + w ≤ length xs)
  decimal_there e =
      (subst (λ (k : ℕ). k ≤ 10) (sym is) (width_le n), leb-true (at + w) (length xs) (sym asked ∙ not-false b e))

  pub decimal_written : not b ≡ false → (ys : List ℕ) → ys ≡ sets xs at (spell 10 w n) → Left ys (at + w)
  unfolding decimal_of
  decimal_written e ys q =
      rw (found true (not-false b e))
      (q ∙ ap (λ (k : ℕ). sets xs at (spell 10 k n)) is, ap (λ (k : ℕ). at + k) (is ∙ sym (decimal-length n)))

-- What fits is written.
pub fits_all : (xs : List ℕ) (at : ℕ) (bytes : List ℕ) → at + length bytes ≤ length xs → fitting xs at bytes ≡ bytes
unfolding fitting
fits_all xs at bytes h = rw (le-leb (at + length bytes) (length xs) h)
