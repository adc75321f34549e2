-- What is in a mask that is made from others, item by item, and over every width.
use Prim.Native.Nat.{ℕ, zero, suc, ◌-◌, ◌/◌, ◌%◌, ◌^◌, ◌≤◌, ◌<◌, min}
use mathlib.Core.Path.{◌≡◌, refl, sym, ap, ap₂, ◌∙◌}
use mathlib.Core.Bool.{Bool, true, false, not, ◌&&◌, ◌||◌, cond}
use mathlib.Core.Logic.{◌⊎◌, inl, inr, ⊎_elim}
use native.Mathlib.Nat.{pow-succ', pow-suc, div-div-eq-div-mul, div-one, zero-div, div-eq_of_lt, mul-mod_left, mul-div_cancel, zero-lt-suc}
use native.Mathlib.Omega.{arith}
use lib.Dec.{eqb, eqb-zero-suc, eqb-suc-zero, eqb-suc-suc}
use lib.Pow.{pow-lt}
use lib.Bits.{bit_and, bit_or, and_step, and_shr, or_shr, and_le_l, or_lt}
use borrow.Author.Tests.{eqb-true, lt-ltb, le-ltb}
use Rattle.lists.proofs.Tests.{or_left, or_right, or_cases}
use Rattle.lists.proofs.Put.{eqb_self}
use Rattle.mask.specs.Mask.{has, without, plus}
use Rattle.mask.specs.Sets.{plus_below}
use Rattle.mask.proofs.Digits.{is_one, is_one_max, is_one_min, is_one_less, digit_lt, or_digit, and_digit}

-- Item 0 is the lowest digit,
pub has_zero : (m : ℕ) → has 0 m ≡ is_one (m % 2)
unfolding has
has_zero m = ap (λ (x : ℕ). is_one (x % 2)) (div-one m)

-- and the others are in the half.
pub has-suc : (i m : ℕ) → has (suc i) m ≡ has i (m / 2)
unfolding has
has-suc i m = ap (λ (x : ℕ). is_one (x % 2)) (ap (λ (y : ℕ). m / y) (pow-succ' 2 i) ∙ sym (div-div-eq-div-mul m 2 (2 ^ i)))

-- The code's way to look for an item.
pub is_held : (m wide i : ℕ) (b : Bool) → wide ≡ m → b ≡ eqb (wide / 2 ^ i % 2) 1 → b ≡ has i m
unfolding has
is_held m wide i b e h = rw (h, e) refl

-- ---- union, intersection, difference

pub has_or : (i a b : ℕ) → has i (bit_or a b) ≡ (has i a || has i b)
unfolding has
has_or i a b =
    ap (λ (x : ℕ). is_one (x % 2)) (or_shr a b i) ∙ ap is_one (or_digit (a / 2 ^ i) (b / 2 ^ i))
    ∙ is_one_max (a / 2 ^ i % 2) (b / 2 ^ i % 2) (digit_lt (a / 2 ^ i)) (digit_lt (b / 2 ^ i))

pub has_and : (i a b : ℕ) → has i (bit_and a b) ≡ (has i a && has i b)
unfolding has
has_and i a b =
    ap (λ (x : ℕ). is_one (x % 2)) (and_shr a b i) ∙ ap is_one (and_digit (a / 2 ^ i) (b / 2 ^ i))
    ∙ is_one_min (a / 2 ^ i % 2) (b / 2 ^ i % 2) (digit_lt (a / 2 ^ i)) (digit_lt (b / 2 ^ i))

without_half : (a b : ℕ) → without a b / 2 ≡ without (a / 2) (b / 2)
unfolding without
without_half a b = omega (arith, and_step a b, and_le_l (a / 2) (b / 2))

without-digit : (a b : ℕ) → without a b % 2 ≡ a % 2 - min (a % 2) (b % 2)
unfolding without
without-digit a b = omega (arith, and_step a b, and_le_l (a / 2) (b / 2))

pub has-without : (i a b : ℕ) → has i (without a b) ≡ (has i a && not (has i b))
has-without zero a b =
    has_zero (without a b) ∙ ap is_one (without-digit a b) ∙ is_one_less (a % 2) (b % 2) (digit_lt a) (digit_lt b)
    ∙ ap₂ (λ (x y : Bool). x && not y) (sym (has_zero a)) (sym (has_zero b))
has-without (suc i) a b =
    has-suc i (without a b) ∙ ap (has i) (without_half a b) ∙ has-without i (a / 2) (b / 2)
    ∙ ap₂ (λ (x y : Bool). x && not y) (sym (has-suc i a)) (sym (has-suc i b))

-- ---- no item, and one

-- Nothing is in 0.
pub has_none : (i : ℕ) → has i 0 ≡ false
unfolding has
has_none i = ap (λ (x : ℕ). is_one (x % 2)) (zero-div (2 ^ i))

-- In 2 ^ j is j alone.
pub has_one : (i j : ℕ) → has i (2 ^ j) ≡ eqb i j
unfolding has
has_one zero zero = refl
has_one (suc i) zero = ap (λ (x : ℕ). is_one (x % 2)) (div-eq_of_lt (pow-lt {i = 0} {j = suc i} (zero-lt-suc i))) ∙ sym (eqb-suc-zero i)
has_one zero (suc j) =
    has_zero (2 ^ suc j) ∙ ap is_one (ap (λ (x : ℕ). x % 2) (pow-suc 2 j) ∙ mul-mod_left (2 ^ j) 2) ∙ sym (eqb-zero-suc j)
has_one (suc i) (suc j) =
    has-suc i (2 ^ suc j) ∙ ap (has i) (ap (λ (x : ℕ). x / 2) (pow-suc 2 j) ∙ mul-div_cancel (2 ^ j) (zero-lt-suc 1))
    ∙ has_one i j ∙ sym (eqb-suc-suc i j)

-- ---- one item more

pub has-plus : (j m i : ℕ) → has j (plus m i) ≡ (has j m || eqb j i)
unfolding plus
has-plus j m i = has_or j m (2 ^ i) ∙ ap (λ (b : Bool). has j m || b) (has_one j i)

-- What was in is in,
pub plus-within : (m i j : ℕ) → has j m ≡ true → has j (plus m i) ≡ true
plus-within m i j e = has-plus j m i ∙ or_left (has j m) (eqb j i) e

-- the new item is in,
pub plus-has : (m i : ℕ) → has i (plus m i) ≡ true
plus-has m i = has-plus i m i ∙ or_right (has i m) (eqb i i) (eqb_self i)

-- and nothing else is.
pub plus_cases : (m i j : ℕ) → has j (plus m i) ≡ true → (has j m ≡ true) ⊎ (j ≡ i)
plus_cases m i j e = ⊎_elim inl (λ q. inr (eqb-true j i q)) (or_cases (has j m) (eqb j i) (sym (has-plus j m i) ∙ e))

-- A new item below the width keeps the width.
pub plus_lt : (k m i : ℕ) → m < 2 ^ k → i < k → plus m i < 2 ^ k
unfolding plus
plus_lt k m i h l = or_lt k m (2 ^ i) h (pow-lt l)

-- Where an item is below the width it is added, and elsewhere nothing is.
pub plus-below : (k m i : ℕ) → i < k → plus_below k m i ≡ plus m i
unfolding plus_below
plus-below k m i l = ap (λ (b : Bool). cond b (plus m i) m) (lt-ltb i k l)

pub plus_past : (k m i : ℕ) → k ≤ i → plus_below k m i ≡ m
unfolding plus_below
plus_past k m i h = ap (λ (b : Bool). cond b (plus m i) m) (le-ltb i k h)
