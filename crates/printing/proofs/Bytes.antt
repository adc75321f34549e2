-- A list cut at its first byte of one value, and what begins with a key.
use Prim.Native.Nat.{ℕ, zero, suc, ◌+◌, ◌/◌, ◌%◌, ◌^◌, ◌<◌}
use mathlib.Core.Path.{◌≡◌, refl, sym, ap, ap₂, ◌∙◌}
use mathlib.Core.List.{List, [], ◌∷◌, ◌++◌}
use mathlib.Core.Bool.{Bool, true, false, not, ◌&&◌, false≢true}
use native.Mathlib.Numerals.{add-one}
use native.Mathlib.Omega.{arith}
use lib.ListN.{length, get_or, take, drop}
use lib.Dec.{eqb}
use lib.Seq.{split_at, take-append_seam, drop-append-add}
use borrow.Author.Tests.{eq-eqb, ne_eqb, eqb-true, not-true}
use Rattle.lists.proofs.Tests.{and_left, and_right, and_of}
use Rattle.scan.specs.Bytes.{before, starts_with, same}
use Rattle.numerals.specs.Numerals.{spell, numeral}
use Rattle.printing.proofs.Digits.{numeral_least}

-- Byte b is none of these.
abbrev pub free : ℕ → List ℕ → Bool
free b [] = true
free b (x ∷ s) = not (eqb x b) && free b s

pub free_app : (b : ℕ) (s t : List ℕ) → free b s ≡ true → free b t ≡ true → free b (s ++ t) ≡ true
free_app b [] t h g = g
free_app b (x ∷ s) t h g = and_of (not (eqb x b)) (free b (s ++ t)) (and_left (not (eqb x b)) (free b s) h) (free_app b s t (and_right (not (eqb x b)) (free b s) h) g)

pub free_cons : (b x : ℕ) (s : List ℕ) → (x ≡ b → ⊥) → free b s ≡ true → free b (x ∷ s) ≡ true
free_cons b x s d h = rw (ne_eqb x b d) h

-- No digit is a comma or byte 10.
pub free_spell : (b base w n : ℕ) → b < 48 → free b (spell base w n) ≡ true
unfolding spell
free_spell b base zero n h = refl
free_spell b base (suc w) n h =
    let d = n / base ^ w in
    let r = n % base ^ w in
    free_cons b (numeral d) (spell base w r) (λ e. absurd (omega (arith, numeral_least d))) (free_spell b base w r h)

module _ (b : ℕ) where
  pub before_app : (s t : List ℕ) → free b s ≡ true → before b (s ++ (b ∷ t)) ≡ length s
  unfolding before
  before_app [] t h = rw (eq-eqb b b refl)
  before_app (x ∷ s) t h =
      step (not-true (eqb x b) (and_left (not (eqb x b)) (free b s) h)) (before_app s t (and_right (not (eqb x b)) (free b s) h))
    where
      step : eqb x b ≡ false → before b (s ++ (b ∷ t)) ≡ length s → before b (x ∷ (s ++ (b ∷ t))) ≡ suc (length s)
      step e ih = rw (e, before) (ap suc ih)

  -- Where b stands after bytes that are none, the list is cut there,
  pub cut_front : (s t : List ℕ) → free b s ≡ true → take (before b (s ++ (b ∷ t))) (s ++ (b ∷ t)) ≡ s
  cut_front s t h = rw (before_app s t h) (take-append_seam s (b ∷ t))

  pub cut_back : (s t : List ℕ) → free b s ≡ true → drop (before b (s ++ (b ∷ t)) + 1) (s ++ (b ∷ t)) ≡ t
  cut_back s t h = rw (before_app s t h) (drop-append-add s (b ∷ t) 1)

  -- and a list that has b is its two parts.
  found : (s : List ℕ) → before b s < length s → get_or s (before b s) 0 ≡ b
  unfolding before
  found [] h = absurd (omega arith)
  found (x ∷ s) h = go (found s) (eqb x b) refl
    where
      go : (before b s < length s → get_or s (before b s) 0 ≡ b) → (t : Bool) → eqb x b ≡ t → get_or (x ∷ s) (before b (x ∷ s)) 0 ≡ b
      go ih true e = rw (e, before) (eqb-true x b e)
      go ih false e = rw (e, before) (ih (let l : suc (before b s) < suc (length s) = rw (e, before) at h in omega arith))

  pub cut : (s : List ℕ) → before b s < length s → s ≡ take (before b s) s ++ (b ∷ drop (before b s + 1) s)
  cut s h =
      split_at s (before b s) 0 h
      ∙ ap₂ (λ (x : ℕ) (n : ℕ). take (before b s) s ++ (x ∷ drop n s)) (found s h) (sym (add-one (before b s)))

-- ---- keys

pub starts_app : (key t : List ℕ) → starts_with key (key ++ t) ≡ true
unfolding starts_with
starts_app [] t = refl
starts_app (k ∷ key) t = and_of (eqb k k) (starts_with key (key ++ t)) (eq-eqb k k refl) (starts_app key t)

pub starts_cut : (key s : List ℕ) → starts_with key s ≡ true → s ≡ key ++ drop (length key) s
unfolding starts_with
starts_cut [] s h = refl
starts_cut (k ∷ key) [] h = absurd (false≢true h)
starts_cut (k ∷ key) (x ∷ s) h =
    ap₂ ◌∷◌ (eqb-true x k (and_left (eqb x k) (starts_with key s) h)) (starts_cut key s (and_right (eqb x k) (starts_with key s) h))

pub same_eq : (s t : List ℕ) → same s t ≡ true → s ≡ t
unfolding same
same_eq [] [] h = refl
same_eq [] (y ∷ t) h = absurd (false≢true h)
same_eq (x ∷ s) [] h = absurd (false≢true h)
same_eq (x ∷ s) (y ∷ t) h =
    ap₂ ◌∷◌ (eqb-true x y (and_left (eqb x y) (same s t) h)) (same_eq s t (and_right (eqb x y) (same s t) h))
