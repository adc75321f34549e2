-- Digits as the code meets them: the width of a number by its logarithm, and a turn of the loop that writes.
use Prim.Native.Nat.{ℕ, zero, suc, ◌+◌, ◌-◌, ◌*◌, ◌/◌, ◌%◌, ◌^◌, ◌≤◌, ◌<◌, suc-le-suc}
use mathlib.Core.Path.{◌≡◌, refl, sym, ap, ap₂, ◌∙◌, subst}
use mathlib.Core.Bool.{Bool, false}
use mathlib.Core.List.{List}
use mathlib.Core.Logic.{⊎_elim}
use native.Mathlib.Nat.{mod-lt, pow-le-pow_right, div-lt_iff_lt-mul, one-le-pow, zero-lt-suc, eq-or-lt_of_le, le_trans, pow-suc, mul_comm}
use native.Mathlib.Numerals.{add-one}
use native.Mathlib.Omega.{arith}
use lib.ListN.{length, set}
use lib.Seq.{sets}
use lib.Dec.{ltb}
use borrow.Author.Tests.{lt-ltb, le-ltb, ltb-true}
use Rattle.std.specs.Prelude.{Option, None, Some, IfNone, IfSome}
use Rattle.std.specs.Option.{MatchOption}
use Rattle.lists.specs.Numbers.{lowest}
use Rattle.lists.proofs.Tests.{lt_or_le, passes_fails}
use Rattle.lists.proofs.Lowest.{lowest_le, lowest-holds, lowest-below, lowest_is, lowest_none}
use Rattle.numerals.specs.Numerals.{numeral, spell, decimal_width, decimal_of}

-- ---- the width of n

-- n has room in w + 1 digits.
abbrev pub room_in : ℕ → ℕ → Bool
room_in n w = ltb n (10 ^ suc w)

module _ (n : ℕ) where
  -- A number of more than k digits has no room in k.
  less_room : (k : ℕ) → 10 ^ k ≤ n → (i : ℕ) → i < k → room_in n i ≡ false
  less_room k l i h = le-ltb n (10 ^ suc i) (le_trans (pow-le-pow_right (zero-lt-suc 9) h) l)

  width_of_log : (k : ℕ) → k < 10 → 10 ^ k ≤ n → n < 10 * 10 ^ k → k + 1 ≡ decimal_width n
  unfolding decimal_width
  width_of_log k h l m =
      add-one k ∙ ap suc (sym (⊎_elim below most (lt_or_le k 9)))
    where
      below : k < 9 → lowest 9 (room_in n) ≡ k
      below q = lowest_is 9 (room_in n) k q (lt-ltb n (10 ^ suc k) (subst (λ (p : ℕ). n < p) (mul_comm 10 (10 ^ k) ∙ sym (pow-suc 10 k)) m)) (less_room k l)

      most : 9 ≤ k → lowest 9 (room_in n) ≡ k
      most q = let e : 9 ≡ k = omega (arith, q, h) in lowest_none 9 (room_in n) (λ i r. less_room k l i (le_trans r q)) ∙ e

  width_of_none : n ≡ 0 → 1 ≡ decimal_width n
  unfolding decimal_width lowest
  width_of_none e = rw e refl

  -- From the logarithm, which 0 has none of; P is what the closure answers of it.
  pub width_of : (log : Option ℕ) (r : ℕ) (P : ℕ → Type 0)
      → IfNone log (n ≡ 0) → IfSome log (λ k. 10 ^ k ≤ n) → IfSome log (λ k. n < 10 * 10 ^ k) → IfSome log (λ k. k < 10)
      → ((k : ℕ) → k < 10 → P k → r ≡ k + 1) → MatchOption log (r ≡ 1) P → r ≡ decimal_width n
  width_of None r P e l m h says q = q ∙ width_of_none e
  width_of (Some k) r P e l m h says q = says k h q ∙ width_of_log k h l m

  pub width_le : decimal_width n ≤ 10
  unfolding decimal_width
  width_le = omega (arith, lowest_le 9 (room_in n))

  -- A number of at most w + 1 digits.
  pub width-within : (w : ℕ) → n < 10 ^ suc w → decimal_width n ≤ suc w
  unfolding decimal_width
  width-within w l =
      ⊎_elim (λ k. absurd (passes_fails (room_in n w) (lt-ltb n (10 ^ suc w) l) (lowest-below 9 (room_in n) w k))) (λ k. suc-le-suc k)
      (lt_or_le w (lowest 9 (room_in n)))

  -- A number has room in its width.
  pub width_room : n < 10 ^ 10 → n < 10 ^ decimal_width n
  unfolding decimal_width
  width_room l =
      ⊎_elim (λ e. subst (λ (k : ℕ). n < 10 ^ suc k) (sym e) l)
      (λ h. ltb-true n (10 ^ suc (lowest 9 (room_in n))) (lowest-holds 9 (room_in n) h))
      (eq-or-lt_of_le (lowest_le 9 (room_in n)))

-- ---- the digits

pub spell-length : (base width n : ℕ) → length (spell base width n) ≡ width
unfolding spell
spell-length base zero n = refl
spell-length base (suc width) n = ap suc (spell-length base width (n % base ^ width))

pub decimal-length : (n : ℕ) → length (decimal_of n) ≡ decimal_width n
unfolding decimal_of
decimal-length n = spell-length 10 (decimal_width n) n

numeral_is : (d : ℕ) → d < 10 → numeral d ≡ 48 + d
unfolding numeral
numeral_is d h = rw (lt-ltb d 10 h) (omega arith)

pub power_pos : (k p : ℕ) → p ≡ 10 ^ k → 0 < p
power_pos k p is = subst (λ (p : ℕ). 0 < p) (sym is) (one-le-pow k 10 (zero-lt-suc 9))

-- A turn: i digits are written, p is the power of the next one.
module _ (width i rest p : ℕ) (some : i < width) (is : p ≡ 10 ^ (width - 1 - i)) (room : rest < 10 ^ (width - i)) where
  count : width - i ≡ suc (width - 1 - i)
  count = omega (arith, some)

  fewer : width - 1 - i ≡ width - (i + 1)
  fewer = omega arith

  pub digit_small : rest / p < 10
  digit_small =
      (div-lt_iff_lt-mul (power_pos _ p is)).1
      (subst (λ (k : ℕ). rest < k) (ap (λ (k : ℕ). 10 ^ k) count ∙ pow-suc 10 (width - 1 - i) ∙ ap (λ (k : ℕ). k * 10) (sym is) ∙ mul_comm p 10) room)

  pub rest_room : rest % p < 10 ^ (width - (i + 1))
  rest_room = subst (λ (k : ℕ). rest % p < k) (is ∙ ap (λ (k : ℕ). 10 ^ k) fewer) (mod-lt rest (power_pos _ p is))

  pub turn : (out : List ℕ) (at : ℕ) → sets (set out (at + i) (48 + rest / p)) (at + (i + 1)) (spell 10 (width - (i + 1)) (rest % p)) ≡ sets out (at + i) (spell 10 (width - i) rest)
  unfolding spell
  turn out at =
      ap (λ (d : ℕ). sets (set out (at + i) d) (at + (i + 1)) (spell 10 (width - (i + 1)) (rest % p))) (sym (numeral_is (rest / p) digit_small))
      ∙ ap (λ (p : ℕ). sets (set out (at + i) (numeral (rest / p))) (at + (i + 1)) (spell 10 (width - (i + 1)) (rest % p))) is
      ∙ ap₂ (λ (k left : ℕ). sets (set out (at + i) (numeral (rest / 10 ^ (width - 1 - i)))) k (spell 10 left (rest % 10 ^ (width - 1 - i)))) next (sym fewer)
      ∙ ap (λ (k : ℕ). sets out (at + i) (spell 10 k rest)) (sym count)
    where
      next : at + (i + 1) ≡ suc (at + i)
      next = omega arith

-- No digit is left.
pub none_left : (out : List ℕ) (at width i rest : ℕ) → width ≤ i → out ≡ sets out (at + i) (spell 10 (width - i) rest)
unfolding spell
none_left out at width i rest h = let e : 0 ≡ width - i = omega (arith, h) in ap (λ (k : ℕ). sets out (at + i) (spell 10 k rest)) e
