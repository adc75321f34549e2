-- The items of a shifted mask: none below the shift, and from it on the mask's own. And the shifts of the code, which stay
-- in a width of k digits.
use Prim.Native.Nat.{ℕ, zero, suc, ◌+◌, ◌-◌, ◌*◌, ◌%◌, ◌^◌, ◌≤◌, ◌<◌}
use mathlib.Core.Path.{◌≡◌, sym, ap, ◌∙◌}
use mathlib.Core.Bool.{false}
use native.Mathlib.Nat.{pow-suc, mul_assoc, mul-mod_left, mul-div_cancel, zero-lt-suc, not-suc-le-zero, le_of_suc-le-suc, add-zero, add-suc, one-mul, mul-one, mod-eq_of_lt, lt_of_lt_of_le}
use native.Mathlib.Omega.{arith}
use lib.Bits.{bit_or}
use lib.Pow.{pow-add, pow-lt, pow_mono, shl_lt, mod-mod-pow}
use Rattle.mask.specs.Mask.{has, plus}
use Rattle.mask.specs.Sets.{plus_below, shifted}
use Rattle.mask.proofs.Digits.{is_one}
use Rattle.mask.proofs.Items.{has_zero, has-suc, plus-below, plus_lt}

double : (n m : ℕ) → shifted (suc n) m ≡ shifted n m * 2
unfolding shifted
double n m = ap (λ (x : ℕ). m * x) (pow-suc 2 n) ∙ sym (mul_assoc m (2 ^ n) 2)

double_zero : (x : ℕ) → has 0 (x * 2) ≡ false
double_zero x = has_zero (x * 2) ∙ ap is_one (mul-mod_left x 2)

double_suc : (i x : ℕ) → has (suc i) (x * 2) ≡ has i x
double_suc i x = has-suc i (x * 2) ∙ ap (has i) (mul-div_cancel x (zero-lt-suc 1))

pub shifted_zero : (m : ℕ) → shifted 0 m ≡ m
unfolding shifted
shifted_zero m = mul-one m

-- From the shift on stand the mask's items,
pub has-shifted : (n m i : ℕ) → has (i + n) (shifted n m) ≡ has i m
has-shifted zero m i = ap (λ (j : ℕ). has j (shifted 0 m)) (add-zero i) ∙ ap (has i) (shifted_zero m)
has-shifted (suc n) m i =
    ap (λ (x : ℕ). has (i + suc n) x) (double n m) ∙ ap (λ (j : ℕ). has j (shifted n m * 2)) (add-suc i n)
    ∙ double_suc (i + n) (shifted n m) ∙ has-shifted n m i

-- and below it none.
pub shifted-below : (n m i : ℕ) → i < n → has i (shifted n m) ≡ false
shifted-below zero m i h = absurd (not-suc-le-zero h)
shifted-below (suc n) m zero h = ap (has 0) (double n m) ∙ double_zero (shifted n m)
shifted-below (suc n) m (suc i) h = ap (has (suc i)) (double n m) ∙ double_suc i (shifted n m) ∙ shifted-below n m i (le_of_suc-le-suc h)

-- ---- in a width of k digits

-- A mask of width j, shifted so far that it fits, loses nothing.
pub shifted_fits : (j k n m : ℕ) → m < 2 ^ j → j + n ≤ k → shifted n m % 2 ^ k ≡ shifted n m
unfolding shifted
shifted_fits j k n m h l = mod-eq_of_lt (lt_of_lt_of_le (shl_lt {a = m} j n h) (pow_mono l))

-- Shifted by the width or more, it has nothing left.
pub shifted_past : (k n m : ℕ) → k ≤ n → 0 ≡ shifted n m % 2 ^ k
unfolding shifted
shifted_past k n m h =
    let q : n - k + k ≡ n = omega arith in
    sym (ap (λ (x : ℕ). m * 2 ^ x % 2 ^ k) (sym q) ∙ ap (λ (x : ℕ). m * x % 2 ^ k) (pow-add 2 (n - k) k)
    ∙ ap (λ (x : ℕ). x % 2 ^ k) (sym (mul_assoc m (2 ^ (n - k)) (2 ^ k))) ∙ mul-mod_left (m * 2 ^ (n - k)) (2 ^ k))

-- 1 shifted to a place of the width is that place's digit.
pub one_shifted : (k i : ℕ) → i < k → 1 * 2 ^ i % 2 ^ k ≡ 2 ^ i
one_shifted k i h = ap (λ (x : ℕ). x % 2 ^ k) (one-mul (2 ^ i)) ∙ mod-eq_of_lt (pow-lt {j = k} h)

-- The code's way to add it, in a width of at most w digits; o is the 1 that it shifts.
module _ (k w m i o : ℕ) (h : i < k) (l : k ≤ w) (one : o ≡ 1) where
  pub one_added : bit_or m (o * 2 ^ i % 2 ^ w) ≡ plus_below k m i
  unfolding plus
  one_added = rw one (ap (bit_or m) (one_shifted w i (lt_of_lt_of_le h l)) ∙ sym (plus-below k m i h))

  pub one_fits : m < 2 ^ k → bit_or m (o * 2 ^ i % 2 ^ w) < 2 ^ k
  unfolding plus
  one_fits f = rw (one, one_shifted w i (lt_of_lt_of_le h l)) (plus_lt k m i f h)

-- The code's way to move all of a mask of k digits, in twice as many as 64, and to cut it twice; d is how far.
pub all_shifted : (k n m d : ℕ) → n < k → k ≤ 64 → m < 2 ^ k → d ≡ n → m * 2 ^ d % 2 ^ 128 % 2 ^ 64 % 2 ^ k ≡ shifted n m % 2 ^ k
unfolding shifted
all_shifted k n m d h l f far =
    let e : 64 - k + k ≡ 64 = omega arith in
    rw far (ap (λ (x : ℕ). x % 2 ^ 64 % 2 ^ k) (shifted_fits k 128 n m f (omega arith))
    ∙ sym (ap (λ (w : ℕ). m * 2 ^ n % 2 ^ w % 2 ^ k) e) ∙ mod-mod-pow (m * 2 ^ n) (64 - k) k)
