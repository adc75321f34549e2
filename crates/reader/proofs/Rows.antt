-- A row that is filled from its start, with blank places after what it holds.
use Prim.Native.Nat.{ℕ, zero, suc, ◌+◌, ◌-◌, ◌≤◌, ◌<◌}
use mathlib.Core.Path.{◌≡◌, refl, sym, ap, ◌∙◌}
use mathlib.Core.List.{List, [], ◌∷◌, ◌++◌, append_assoc}
use native.Mathlib.Nat.{suc-add}
use native.Mathlib.Omega.{arith}
use lib.ListN.{length, get_or, set, replicate, length-append, length-replicate}
use lib.Seq.{set-append_seam}

module _ {A : Type 0} where
  pub longer : (front : List A) (a : A) → length front + 1 ≡ length (front ++ (a ∷ []))
  longer front a = sym (length-append front (a ∷ []))

  -- One element more takes the first blank place.
  pub seam : (d : A) (front : List A) (more rest : ℕ) (a : A)
      → set (front ++ replicate (suc more + rest) d) (length front) a ≡ (front ++ (a ∷ [])) ++ replicate (more + rest) d
  seam d front more rest a =
      ap (λ (k : ℕ). set (front ++ replicate k d) (length front) a) (suc-add more rest)
      ∙ set-append_seam front d (replicate (more + rest) d) a
      ∙ sym (append_assoc front (a ∷ []) (replicate (more + rest) d))

  -- The blank places fill it to its size,
  pub row_full : (l : List A) (k n : ℕ) (d : A) → length l ≡ k → k ≤ n → length (l ++ replicate (n - k) d) ≡ n
  row_full l k n d e h = omega (arith, length-append l (replicate (n - k) d), length-replicate {A = A} (n - k) d)

  -- and at them stands what is blank.
  pub row_past : (l : List A) (k X : ℕ) (d : A) → length l ≤ X → get_or (l ++ replicate k d) X d ≡ d
  row_past [] zero X d h = refl
  row_past [] (suc k) zero d h = refl
  row_past [] (suc k) (suc X) d h = row_past [] k X d (omega arith)
  row_past (x ∷ l) k zero d h = absurd (omega arith)
  row_past (x ∷ l) k (suc X) d h = row_past l k X d (omega arith)

  -- What is true of a row's first place and of those of its rest is true of each place.
  pub row_cons : (P : A → Type 0) (d a : A) (l : List A) (n : ℕ) → P a → ((i : ℕ) → i < n → P (get_or l i d)) → (i : ℕ) → i < suc n → P (get_or (a ∷ l) i d)
  row_cons P d a l n f h zero k = f
  row_cons P d a l n f h (suc i) k = h i (omega arith)
