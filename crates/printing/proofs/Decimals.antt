-- Decimal numbers, written and read. A number takes as many digits as it needs, so its first is not 0 unless it is alone.
use Prim.Native.Nat.{ℕ, zero, suc, ◌/◌, ◌^◌, ◌≤◌, ◌<◌}
use mathlib.Core.Path.{◌≡◌, refl, sym, ap, ◌∙◌}
use mathlib.Core.List.{List, [], ◌∷◌}
use mathlib.Core.Bool.{Bool, true, not, ◌&&◌, ◌||◌}
use mathlib.Core.Logic.{◌⊎◌, inl, inr}
use native.Mathlib.Nat.{le_of_suc-le-suc, div-eq_of_lt, le-div_iff_mul-le, pow-le-pow_right}
use native.Mathlib.Omega.{arith}
use lib.ListN.{length, get_or}
use lib.Dec.{eqb, leb, ltb}
use borrow.Author.Tests.{ltb-true, ltb-false, leb-true, eqb-true, eqb-false, not-true, lt-ltb, le-ltb}
use Rattle.lists.specs.Numbers.{lowest}
use Rattle.lists.proofs.{Tests.{and_three, or_cases, lt_or_le}, Lowest.{lowest-holds, lowest-below, lowest_is}}
use Rattle.numerals.specs.Numerals.{numeral, spell, decimal_width, decimal_of}
use Rattle.field.specs.Fields.{is, bad, digit, digits, decimal}
use Rattle.field.proofs.Numbers.{decimal_digit, decimal-digits}
use Rattle.field.proofs.Each.{Each, each_bad, each_if}
use Rattle.numerals.proofs.Digits.{width-within, spell-length, decimal-length}
use Rattle.printing.proofs.Digits.{digit-numeral, power_pos, top_digit, spell_back, Spelled, spell_only}
use Rattle.printing.proofs.Bytes.{free, free_spell}

-- ---- how many digits

-- So many digits more than one, and no fewer would do.
abbrev Fits : ℕ → ℕ → Type 0
Fits u v = (u ≤ 3) × (v < 10 ^ suc u) × ((u ≡ 0) ⊎ (10 ^ u ≤ v))

fits_width : (u v : ℕ) → Fits u v → decimal_width v ≡ suc u
unfolding decimal_width
fits_width u v (few, l, g) =
    ap suc (lowest_is 9 (λ w. ltb v (10 ^ suc w)) u (omega arith) (lt-ltb v (10 ^ suc u) l) (λ j h. le-ltb v (10 ^ suc j) (less j h g)))
  where
    less : (j : ℕ) → j < u → (u ≡ 0) ⊎ (10 ^ u ≤ v) → 10 ^ suc j ≤ v
    less j h (inl e) = absurd (omega arith)
    less j h (inr e) = omega (arith, pow-le-pow_right {n = 10} (omega arith) {i = suc j} {j = u} h)

-- A number below 10,000 takes 1 to 4.
width_fits : (v : ℕ) → v < 10000 → (u : ℕ) × (decimal_width v ≡ suc u) × Fits u v
unfolding decimal_width
width_fits v h = (u, refl, (few, ltb-true v (10 ^ suc u) (lowest-holds 9 p (omega (arith, few))), least u refl))
  where
    p : ℕ → Bool
    p w = ltb v (10 ^ suc w)

    u : ℕ
    u = lowest 9 p

    few : u ≤ 3
    few = le_of_suc-le-suc (width-within v 3 h)

    least : (w : ℕ) → u ≡ w → (w ≡ 0) ⊎ (10 ^ w ≤ v)
    least zero e = inl refl
    least (suc w) e = inr (ltb-false v (10 ^ suc w) (lowest-below 9 p w (omega (arith, e))))

-- ---- written and read

-- The first digit is 0 exactly for a number that needs fewer.
leading : (u v : ℕ) → v < 10 ^ suc u → 10 ^ u ≤ v → numeral (v / 10 ^ u) ≡ 48 → ⊥
unfolding digit
leading u v l g e =
    let d = v / 10 ^ u in
    let pos = power_pos 10 (omega arith) (omega arith) u in
    let low : 1 ≤ d = (le-div_iff_mul-le pos).1 (omega arith) in
    let high : d < 10 = top_digit 10 (omega arith) (omega arith) u v l in
    let none : d ≡ 0 = sym (digit-numeral d (omega arith)) ∙ ap digit e in
    absurd (omega arith)

led : (u v : ℕ) → (numeral (v / 10 ^ u) ≡ 48 → ⊥) → 10 ^ u ≤ v
unfolding numeral
led u v d = go (lt_or_le v (10 ^ u))
  where
    go : (v < 10 ^ u) ⊎ (10 ^ u ≤ v) → 10 ^ u ≤ v
    go (inl l) = absurd (d (ap numeral (div-eq_of_lt l)))
    go (inr l) = l

spelled_back : (u v : ℕ) → Fits u v → decimal (spell 10 (suc u) v) ≡ is v
unfolding spell
spelled_back u v (few, l, g) =
    let s = spell 10 (suc u) v in
    let n = spell-length 10 (suc u) v in
    let read : is v ≡ digits 10 0 s = sym (spell_back 10 (omega arith) (omega arith) (suc u) 0 v l ∙ ap is (omega arith)) in
    sym (go g n read)
  where
    go : (u ≡ 0) ⊎ (10 ^ u ≤ v) → length (spell 10 (suc u) v) ≡ suc u → is v ≡ digits 10 0 (spell 10 (suc u) v)
        → is v ≡ decimal (spell 10 (suc u) v)
    go (inl e) n read = decimal_digit (spell 10 (suc u) v) (λ z. absurd (omega arith)) (omega arith) (is v) (omega arith) read
    go (inr h) n read = more (lt_or_le 0 u)
      where
        more : (0 < u) ⊎ (u ≤ 0) → is v ≡ decimal (spell 10 (suc u) v)
        more (inl p) =
            decimal-digits (spell 10 (suc u) v) (λ z. absurd (omega arith)) (omega arith) (λ z. absurd (omega arith)) (is v) (leading u v l h) read
        more (inr p) = decimal_digit (spell 10 (suc u) v) (λ z. absurd (omega arith)) (omega arith) (is v) (omega arith) read

pub decimal_back : (v : ℕ) → v < 10000 → decimal (decimal_of v) ≡ is v
unfolding decimal_of
decimal_back v h = let p = width_fits v h in rw p.1 (spelled_back p.0 v p.2)

pub decimal_short : (v : ℕ) → v < 10000 → length (decimal_of v) ≤ 4
decimal_short v h = omega (arith, decimal-length v, width-within v 3 h)

pub decimal_free : (b v : ℕ) → b < 48 → free b (decimal_of v) ≡ true
unfolding decimal_of
decimal_free b v = free_spell b 10 (decimal_width v) v

spelled_only : (b : ℕ) (s : List ℕ) (v : ℕ) → length s ≤ 3 → (length s ≡ 0) ⊎ (b ≡ 48 → ⊥)
    → Spelled 10 (omega arith) (omega arith) (b ∷ s) 0 v → b ∷ s ≡ decimal_of v
unfolding decimal_of spell
spelled_only b s v few g (n, l, e, q) =
    q ∙ ap (λ (w : ℕ). spell 10 w n) (sym (fits_width (length s) n (few, l, go g))) ∙ ap decimal_of (omega arith)
  where
    first : b ≡ numeral (n / 10 ^ length s)
    first = ap (λ (l : List ℕ). get_or l 0 0) q

    go : (length s ≡ 0) ⊎ (b ≡ 48 → ⊥) → (length s ≡ 0) ⊎ (10 ^ length s ≤ n)
    go (inl z) = inl z
    go (inr d) = inr (led (length s) n (λ z. d (first ∙ z)))

pub decimal_only : (s : List ℕ) → Each (λ v. s ≡ decimal_of v) (decimal s)
unfolding decimal
decimal_only s =
    each_if _ (ltb 0 (length s) && (leb (length s) 4 && (eqb (length s) 1 || not (eqb (get_or s 0 0) 48)))) (digits 10 0 s) (bad 2)
    (λ q v e. let t = and_three (ltb 0 (length s)) (leb (length s) 4) (eqb (length s) 1 || not (eqb (get_or s 0 0) 48)) q in
    laid s v (ltb-true 0 (length s) t.0) (leb-true (length s) 4 t.1) (or_cases (eqb (length s) 1) (not (eqb (get_or s 0 0) 48)) t.2) e)
    (λ q. each_bad _ 2)
  where
    laid : (s : List ℕ) (v : ℕ) → 0 < length s → length s ≤ 4 → (eqb (length s) 1 ≡ true) ⊎ (not (eqb (get_or s 0 0) 48) ≡ true)
        → digits 10 0 s ≡ is v → s ≡ decimal_of v
    laid [] v some few g e = absurd (omega arith)
    laid (b ∷ s) v some few g e = spelled_only b s v (omega arith) (layout g) (spell_only 10 (omega arith) (omega arith) (b ∷ s) 0 v e)
      where
        layout : (eqb (suc (length s)) 1 ≡ true) ⊎ (not (eqb b 48) ≡ true) → (length s ≡ 0) ⊎ (b ≡ 48 → ⊥)
        layout (inl z) = inl (let k = eqb-true (suc (length s)) 1 z in omega arith)
        layout (inr z) = inr (eqb-false b 48 (not-true (eqb b 48) z))
