-- Digits spelled in a base, and read: what is spelled reads as its number, and what reads was spelled so.
use Prim.Native.Nat.{ℕ, zero, suc, ◌+◌, ◌*◌, ◌/◌, ◌%◌, ◌^◌, ◌≤◌, ◌<◌}
use mathlib.Core.Path.{◌≡◌, refl, sym, ap, ap₂, ◌∙◌, subst}
use mathlib.Core.List.{List, [], ◌∷◌}
use mathlib.Core.Bool.{Bool, true, false}
use mathlib.Core.Logic.{◌⊎◌, inl, inr}
use native.Mathlib.Nat.{pow-succ', pow-zero, one-le-pow, mod-lt, div-lt_iff_lt-mul, div-add-mod'}
use native.Mathlib.Omega.{arith}
use lib.ListN.{length}
use lib.Dec.{ltb}
use lib.Arith.{digits_div, digits_mod, digits_lt}
use borrow.Author.Tests.{ltb-true, lt-ltb, le-ltb}
use Rattle.lists.proofs.Tests.{lt_or_le}
use Rattle.field.specs.Fields.{is, bad, digit, digits}
use Rattle.field.proofs.Numbers.{digit_under, digit-decimal, digit-between, digit_letter, digit_over}
use Rattle.numerals.specs.Numerals.{numeral, spell}

-- ---- one digit

numeral_low : (d : ℕ) → d < 10 → numeral d ≡ d + 48
unfolding numeral
numeral_low d h = rw (lt-ltb d 10 h)

numeral_high : (d : ℕ) → 10 ≤ d → numeral d ≡ d + 87
unfolding numeral
numeral_high d h = rw (le-ltb d 10 h)

-- A digit's byte reads as the digit,
pub digit-numeral : (d : ℕ) → d < 16 → digit (numeral d) ≡ d
digit-numeral d h = go (lt_or_le d 10)
  where
    go : (d < 10) ⊎ (10 ≤ d) → digit (numeral d) ≡ d
    go (inl l) = ap digit (numeral_low d l) ∙ sym (digit-decimal (d + 48) (omega arith) (omega arith)) ∙ omega arith
    go (inr l) =
        ap digit (numeral_high d l) ∙ sym (digit_letter (d + 87) (omega arith) (omega arith) (omega arith) (omega arith)) ∙ omega arith

-- and a byte that reads as a digit is that digit's.
pub numeral-digit : (b : ℕ) → digit b < 16 → numeral (digit b) ≡ b
numeral-digit b h = first (lt_or_le b 48)
  where
    fourth : 48 ≤ b → 57 < b → 97 ≤ b → (b < 103) ⊎ (103 ≤ b) → numeral (digit b) ≡ b
    fourth p q r (inl l) = let e = digit_letter b p q r (omega arith) in numeral_high (digit b) (omega arith) ∙ omega arith
    fourth p q r (inr l) = let e = digit_over b p q r (omega arith) in absurd (omega arith)

    third : 48 ≤ b → 57 < b → (b < 97) ⊎ (97 ≤ b) → numeral (digit b) ≡ b
    third p q (inl l) = let e = digit-between b p q l in absurd (omega arith)
    third p q (inr l) = fourth p q l (lt_or_le b 103)

    second : 48 ≤ b → (b < 58) ⊎ (58 ≤ b) → numeral (digit b) ≡ b
    second p (inl l) = let e = digit-decimal b p (omega arith) in numeral_low (digit b) (omega arith) ∙ omega arith
    second p (inr l) = third p (omega arith) (lt_or_le b 97)

    first : (b < 48) ⊎ (48 ≤ b) → numeral (digit b) ≡ b
    first (inl l) = let e = digit_under b l in absurd (omega arith)
    first (inr l) = second l (lt_or_le b 58)

pub numeral_least : (d : ℕ) → 48 ≤ numeral d
numeral_least d = go (lt_or_le d 10)
  where
    go : (d < 10) ⊎ (10 ≤ d) → 48 ≤ numeral d
    go (inl l) = omega (arith, numeral_low d l)
    go (inr l) = omega (arith, numeral_high d l)

-- ---- so many digits

digits_cons : (base acc b : ℕ) (s : List ℕ) → digit b < base → digits base acc (b ∷ s) ≡ digits base (acc * base + digit b) s
unfolding digits
digits_cons base acc b s h = rw (lt-ltb (digit b) base h, digits)

spell_cons : (base w d r : ℕ) → r < base ^ w → spell base (suc w) (d * base ^ w + r) ≡ numeral d ∷ spell base w r
unfolding spell
spell_cons base w d r h = ap₂ (λ (x y : ℕ). numeral x ∷ spell base w y) (digits_div d h) (digits_mod d h)

module _ (base : ℕ) (some : 0 < base) (small : base ≤ 16) where
  pub power_pos : (w : ℕ) → 0 < base ^ w
  power_pos w = one-le-pow w base some

  pub top_digit : (w n : ℕ) → n < base ^ suc w → n / base ^ w < base
  top_digit w n h = (div-lt_iff_lt-mul (power_pos w)).1 (subst (λ (k : ℕ). n < k) (pow-succ' base w) h)

  -- What is spelled reads as its number.
  pub spell_back : (w acc n : ℕ) → n < base ^ w → digits base acc (spell base w n) ≡ is (acc * base ^ w + n)
  unfolding digits spell
  spell_back zero acc n h =
      let one = pow-zero base in
      let e : acc ≡ acc * base ^ 0 + n = rw one (omega arith) in
      ap is e
  spell_back (suc w) acc n h =
      let d = n / base ^ w in
      let r = n % base ^ w in
      let top = top_digit w n h in
      let e : digit (numeral d) ≡ d = digit-numeral d (omega arith) in
      let sum : (acc * base + d) * base ^ w + r ≡ acc * base ^ suc w + n = rw (pow-succ' base w) (omega (arith, div-add-mod' n (base ^ w))) in
      digits_cons base acc (numeral d) (spell base w r) (subst (λ (k : ℕ). k < base) (sym e) top)
      ∙ ap (λ (x : ℕ). digits base (acc * base + x) (spell base w r)) e
      ∙ spell_back w (acc * base + d) r (mod-lt n (power_pos w))
      ∙ ap is sum

  -- What reads was spelled so.
  abbrev pub Spelled : List ℕ → ℕ → ℕ → Type 0
  Spelled s acc m = (n : ℕ) × (n < base ^ length s) × (m ≡ acc * base ^ length s + n) × (s ≡ spell base (length s) n)

  pub spell_only : (s : List ℕ) (acc m : ℕ) → digits base acc s ≡ is m → Spelled s acc m
  unfolding digits spell
  spell_only [] acc m e =
      let same : acc ≡ m = cc in
      let one = pow-zero base in
      (0, power_pos 0, rw one (omega arith), refl)
  spell_only (b ∷ s) acc m e = go (spell_only s (acc * base + digit b) m) (ltb (digit b) base) refl
    where
      go : (digits base (acc * base + digit b) s ≡ is m → Spelled s (acc * base + digit b) m)
          → (t : Bool) → ltb (digit b) base ≡ t → Spelled (b ∷ s) acc m
      go rest true q =
          let w = length s in
          let d = digit b in
          let l : d < base = ltb-true d base q in
          let p = rest (sym (digits_cons base acc b s l) ∙ e) in
          let r = p.0 in (
            d * base ^ w + r,
            rw (pow-succ' base w) (digits_lt l p.1),
            rw (pow-succ' base w) (omega (arith, p.2)),
            ap₂ ◌∷◌ (sym (numeral-digit b (omega arith))) p.3 ∙ sym (spell_cons base w d r p.1),
          )
      go rest false q =
          let no : bad 2 ≡ is m = rw (q, digits) at e in
          let z : ◌≡◌ {A = ℕ} 0 1 = cc in
          absurd (omega arith)
