-- Digits, decimals and masks, over plain variables: what the readers of numbers pass, and how large what they read can be.
use Prim.Native.Nat.{ℕ, suc, ◌+◌, ◌-◌, ◌*◌, ◌/◌, ◌^◌, ◌≤◌, ◌<◌}
use mathlib.Core.Path.{◌≡◌, refl, sym, ap, ◌∙◌, subst}
use mathlib.Core.List.{List, [], ◌∷◌}
use mathlib.Core.Bool.{Bool, true, false}
use native.Mathlib.Numerals.{add-one}
use native.Mathlib.Nat.{pow-suc, suc-mul, mul-le-mul, pow-le-pow_right, mod-lt, div-eq_of_lt}
use mathlib.Core.Logic.{◌⊎◌, inl, inr}
use native.Mathlib.Omega.{arith}
use lib.ListN.{length, get_or, drop, drop_of_length-le}
use lib.Dec.{ltb, eqb}
use lib.Pow.{pow_pos, pow_mono, split}
use borrow.Author.Tests.{ltb-true, eqb-true, eqb-false, eq-eqb, ne_eqb, le-leb, lt-leb, lt-ltb, le-ltb}
use Rattle.lists.proofs.Tests.{lt_or_le}
use Rattle.scan.proofs.Steps.{at_place}
use Rattle.field.proofs.Each.{mask_read}
use Rattle.field.specs.Fields.{Field, is, bad, digit, digits, decimal, mask}

-- ---- digits

module _ (b : ℕ) where
  pub digit_under : b < 48 → 16 ≡ digit b
  unfolding digit
  digit_under h =
      let k : b < 97 = omega arith in
      simp (lt-leb 48 b h, lt-leb 97 b k, digit)

  pub digit-decimal : 48 ≤ b → b ≤ 57 → b - 48 ≡ digit b
  unfolding digit
  digit-decimal h k = simp (le-leb 48 b h, le-leb b 57 k, digit)

  pub digit-between : 48 ≤ b → 57 < b → b < 97 → 16 ≡ digit b
  unfolding digit
  digit-between h k l = simp (le-leb 48 b h, lt-leb b 57 k, lt-leb 97 b l, digit)

  pub digit_letter : 48 ≤ b → 57 < b → 97 ≤ b → b ≤ 102 → b - 97 + 10 ≡ digit b
  unfolding digit
  digit_letter h k l m = simp (le-leb 48 b h, lt-leb b 57 k, le-leb 97 b l, le-leb b 102 m, digit) (omega arith)

  pub digit_over : 48 ≤ b → 57 < b → 97 ≤ b → 102 < b → 16 ≡ digit b
  unfolding digit
  digit_over h k l m = simp (le-leb 48 b h, lt-leb b 57 k, le-leb 97 b l, lt-leb b 102 m, digit)

-- The digits from a place on.
module _ (base acc : ℕ) (s : List ℕ) (i : ℕ) where
  pub digits_done : length s ≤ i → digits base acc (drop i s) ≡ is acc
  unfolding digits
  digits_done h = rw (drop_of_length-le s h)

  module _ (h : i < length s) where
    pub digits_bad : base ≤ digit (get_or s i 0) → digits base acc (drop i s) ≡ bad 2
    unfolding digits
    digits_bad e = rw (at_place s i h, le-ltb _ _ e, digits)

    pub digits_on : digit (get_or s i 0) < base → digits base acc (drop i s) ≡ digits base (acc * base + digit (get_or s i 0)) (drop (i + 1) s)
    unfolding digits
    digits_on e = rw (at_place s i h, digits, lt-ltb _ _ e)

-- A number of i digits, and one more.
pub one_digit_more : (acc base d i : ℕ) → base ≤ 16 → d < base → acc < 16 ^ i → acc * base + d < 16 ^ (i + 1)
one_digit_more acc base d i hb hd h = rw (add-one, pow-suc) (omega (arith, rw suc-mul at (mul-le-mul h hb)))

-- The digits after i digits, and how large what they write together can be.
pub digits-below : (base acc i : ℕ) (s : List ℕ) (m : ℕ) → base ≤ 16 → acc < 16 ^ i → digits base acc s ≡ is m → m < 16 ^ (i + length s)
unfolding digits
digits-below base acc i [] m small h e =
    let same : acc ≡ m = cc in
    let none : i ≡ i + 0 = omega arith in
    subst (λ (k : ℕ). m < 16 ^ k) none (subst (λ (k : ℕ). k < 16 ^ i) same h)
digits-below base acc i (b ∷ s) m small h e =
    go (λ next. digits-below base (acc * base + digit b) (i + 1) s m small next) (ltb (digit b) base) refl
  where
    go : (acc * base + digit b < 16 ^ (i + 1) → digits base (acc * base + digit b) s ≡ is m → m < 16 ^ (i + 1 + length s))
        → (t : Bool) → ltb (digit b) base ≡ t → m < 16 ^ (i + suc (length s))
    go rest true q =
        let more : acc * base + digit b < 16 ^ (i + 1) = one_digit_more acc base (digit b) i small (ltb-true (digit b) base q) h in
        let sum : i + 1 + length s ≡ i + suc (length s) = omega arith in
        subst (λ (k : ℕ). m < 16 ^ k) sum (rest more (rw (q, digits) at e))
    go rest false q =
        let no : bad 2 ≡ is m = rw (q, digits) at e in
        let z : ◌≡◌ {A = ℕ} 0 1 = cc in
        absurd (omega arith)

-- Sixteen digits fit.
digits_fit : (n i : ℕ) → n < 16 ^ i → i ≤ 16 → n < 2 ^ 64
digits_fit n i h g = omega (arith, pow-le-pow_right {n = 16} (omega arith) g)

-- The next value of the loop fits.
pub sum_fits : (acc base d i n : ℕ) → n ≤ 16 → base ≤ 16 → i < n → acc < 16 ^ i → d < base → acc * base + d < 2 ^ 64
sum_fits acc base d i n few small l h k = digits_fit (acc * base + d) (i + 1) (one_digit_more acc base d i small k h) (omega arith)

pub ruleset reading = (digits_done, digits_bad, digits_on, one_digit_more, sum_fits)

-- ---- `decimal`

module _ (s : List ℕ) where
  pub decimal_none : length s ≡ 0 → bad 2 ≡ decimal s
  unfolding decimal
  decimal_none h =
      let e : length s ≤ 0 = omega arith in
      simp (le-ltb 0 (length s) e, decimal)

  module _ (some : length s ≡ 0 → ⊥) (few : length s ≤ 4) where
    pub decimal_digit : (r : Field ℕ) → length s ≡ 1 → r ≡ digits 10 0 s → r ≡ decimal s
    unfolding decimal
    decimal_digit r h e =
        let k : 0 < length s = omega arith in
        simp (lt-ltb 0 (length s) k, le-leb (length s) 4 few, eq-eqb (length s) 1 h, decimal) e

    pub decimal-digits : (length s ≡ 1 → ⊥) → (r : Field ℕ) → (get_or s 0 0 ≡ 48 → ⊥) → r ≡ digits 10 0 s → r ≡ decimal s
    unfolding decimal
    decimal-digits more r h e =
        let k : 0 < length s = omega arith in
        simp (lt-ltb 0 (length s) k, le-leb (length s) 4 few, ne_eqb (length s) 1 more, ne_eqb (get_or s 0 0) 48 h, decimal) e

-- ---- `mask`

-- No item at or past the limit, by a shift.
pub below_shift : (m items : ℕ) → eqb (m / 2 ^ items) 0 ≡ ltb m (2 ^ items)
below_shift m items = go (eqb (m / 2 ^ items) 0) refl
  where
    go : (t : Bool) → eqb (m / 2 ^ items) 0 ≡ t → eqb (m / 2 ^ items) 0 ≡ ltb m (2 ^ items)
    go true q =
        let nothing : m / 2 ^ items ≡ 0 = eqb-true (m / 2 ^ items) 0 q in
        q ∙ sym (lt-ltb m (2 ^ items) (omega (arith, split m items, mod-lt m (pow_pos items), ap (λ (d : ℕ). d * 2 ^ items) nothing)))
    go false q = q ∙ sym (le-ltb m (2 ^ items) (reaches (lt_or_le m (2 ^ items))))
      where
        reaches : (m < 2 ^ items) ⊎ (2 ^ items ≤ m) → 2 ^ items ≤ m
        reaches (inl l) = absurd (eqb-false (m / 2 ^ items) 0 q (div-eq_of_lt l))
        reaches (inr l) = l

-- Every item of a mask of 64 bits is below 64.
pub below_all : (m items : ℕ) → m < 2 ^ 64 → 64 ≤ items → ltb m (2 ^ items) ≡ true
below_all m items h k = lt-ltb m (2 ^ items) (omega (arith, pow_mono {i = 64} {j = items} k))

-- ---- what fits a smaller word

-- At most four digits, and eight.
pub decimal_fits : (s : List ℕ) (v : ℕ) → length s ≤ 4 → is v ≡ digits 10 0 s → v < 2 ^ 16
decimal_fits s v few e =
    let below : v < 16 ^ (0 + length s) = digits-below 10 0 0 s v (omega arith) (omega arith) (sym e) in
    let all : 0 + length s ≤ 4 = omega arith in
    omega (arith, pow-le-pow_right {n = 16} (omega arith) all)

pub mask_fits : (items : ℕ) (s : List ℕ) (m : ℕ) → is m ≡ mask 8 items s → m < 2 ^ 32
mask_fits items s m e =
    let read = mask_read 8 items s m (sym e) in
    let below : m < 16 ^ (0 + length s) = digits-below 16 0 0 s m (omega arith) (omega arith) read.1 in
    let width : length s ≡ 8 = read.0 in
    omega (arith, subst (λ (k : ℕ). m < 16 ^ (0 + k)) width below)
