-- The turns of a loop that stores: `written`.
use Prim.Native.Nat.{ℕ, ◌+◌, ◌-◌, ◌≤◌, ◌<◌}
use mathlib.Core.Path.{◌≡◌, sym, ap, ◌∙◌}
use mathlib.Core.Bool.{and-false}
use mathlib.Core.Logic.{⊎_elim}
use mathlib.Core.List.{List}
use native.Mathlib.Omega.{arith}
use lib.ListN.{length, get_or, set}
use lib.Seq.{get_or-set_same, get_or-set_other}
use lib.Dec.{leb}
use borrow.Author.Tests.{lt-ltb, le-ltb, le-leb, lt-leb}
use Rattle.lists.specs.Writes.{written}
use Rattle.lists.proofs.Tests.{lt_or_le}

module _ (xs : List ℕ) (from n : ℕ) (f : ℕ → ℕ) where
  pub written_in : (j : ℕ) → from ≤ j → j < from + n → written xs from n f j ≡ f (j - from)
  unfolding written
  written_in j h l = rw (le-leb from j h, lt-ltb j (from + n) l)

  pub written_below : (j : ℕ) → j < from → written xs from n f j ≡ get_or xs j 0
  unfolding written
  written_below j h = rw (lt-leb from j h)

  pub written_above : (j : ℕ) → from + n ≤ j → written xs from n f j ≡ get_or xs j 0
  unfolding written
  written_above j h = rw (le-ltb j (from + n) h, and-false (leb from j))

pub written_none : (xs : List ℕ) (from : ℕ) (f : ℕ → ℕ) (j : ℕ) → get_or xs j 0 ≡ written xs from 0 f j
written_none xs from f j =
    ⊎_elim (λ l. sym (written_below xs from 0 f j l)) (λ h. sym (written_above xs from 0 f j (omega arith))) (lt_or_le j from)

-- One turn: the place after those written takes its value.
pub written_more : (xs₀ xs : List ℕ) (from i : ℕ) (f : ℕ → ℕ) (v : ℕ) → from + i < length xs → v ≡ f i → ((j : ℕ) → get_or xs j 0 ≡ written xs₀ from i f j)
    → (j : ℕ) → get_or (set xs (from + i) v) j 0 ≡ written xs₀ from (i + 1) f j
unfolding written
written_more xs₀ xs from i f v l q e j =
    ⊎_elim below (λ h. ⊎_elim (λ r. here (omega arith)) above (lt_or_le j (from + i + 1))) (lt_or_le j (from + i))
  where
    same : (j ≡ from + i → ⊥) → written xs₀ from i f j ≡ written xs₀ from (i + 1) f j → get_or (set xs (from + i) v) j 0 ≡ written xs₀ from (i + 1) f j
    same n m = get_or-set_other xs (from + i) j v 0 n ∙ e j ∙ m

    below : j < from + i → get_or (set xs (from + i) v) j 0 ≡ written xs₀ from (i + 1) f j
    below k = same (λ r. omega arith) (rw (lt-ltb j (from + i) k, lt-ltb j (from + (i + 1)) (omega arith)))

    above : from + i + 1 ≤ j → get_or (set xs (from + i) v) j 0 ≡ written xs₀ from (i + 1) f j
    above k = same (λ r. omega arith) (rw (le-ltb j (from + i) (omega arith), le-ltb j (from + (i + 1)) (omega arith)))

    here : j ≡ from + i → get_or (set xs (from + i) v) j 0 ≡ written xs₀ from (i + 1) f j
    here r =
        ap (λ (k : ℕ). get_or (set xs (from + i) v) k 0) r ∙ get_or-set_same xs (from + i) v 0 l ∙ q
        ∙ ap f (omega arith) ∙ sym (written_in xs₀ from (i + 1) f j (omega arith) (omega arith))
