-- Masks of a width, those below 2 ^ k: which items they can have, when two are equal, when one is within another, and
-- the lowest item.
use Prim.Native.Nat.{ℕ, zero, suc, ◌/◌, ◌%◌, ◌^◌, ◌≤◌, ◌<◌, suc-le-suc}
use mathlib.Core.Path.{◌≡◌, refl, sym, ap, ◌∙◌, fun_ext}
use mathlib.Core.Bool.{Bool, true, false, not, ◌||◌, cond}
use native.Mathlib.Nat.{pow-suc, zero-lt-suc, not-suc-le-zero, le_of_suc-le-suc, not-le_of_lt}
use native.Mathlib.Omega.{arith}
use lib.Arith.{lt-one}
use lib.Pow.{pow_pos}
use lib.Count.{count_trailing_zeros, under}
use Rattle.lists.specs.Numbers.{lowest}
use Rattle.lists.proofs.Tests.{fails, passes_fails, imp, imp_of}
use Rattle.lists.proofs.Every.{every_at, every_of}
use Rattle.mask.specs.Mask.{has}
use Rattle.mask.specs.Sets.{within}
use Rattle.mask.proofs.Digits.{is_one, is_one_same, digit_lt, two_digits, half_lt}
use Rattle.mask.proofs.Items.{has_zero, has-suc, has_none}

-- ---- the items of a mask of width k

-- Each stands below k,
pub has-below : (k m i : ℕ) → m < 2 ^ k → has i m ≡ true → i < k
has-below zero m i h e = absurd (passes_fails (has i m) e (ap (has i) (lt-one h) ∙ has_none i))
has-below (suc k) m zero h e = zero-lt-suc k
has-below (suc k) m (suc i) h e = suc-le-suc (has-below k (m / 2) i (half_lt k m h) (sym (has-suc i m) ∙ e))

-- so none at k or past it.
pub has_past : (k m i : ℕ) → m < 2 ^ k → k ≤ i → has i m ≡ false
has_past k m i h l = fails (has i m) (λ e. not-le_of_lt (has-below k m i h e) l)

-- Two masks with the same items are equal.
pub mask_ext : (k a b : ℕ) → a < 2 ^ k → b < 2 ^ k → ((i : ℕ) → i < k → has i a ≡ has i b) → a ≡ b
mask_ext zero a b ha hb e = lt-one ha ∙ sym (lt-one hb)
mask_ext (suc k) a b ha hb e =
    let half : a / 2 ≡ b / 2 = mask_ext k (a / 2) (b / 2) (half_lt k a ha) (half_lt k b hb) (λ i h. sym (has-suc i a) ∙ e (suc i) (suc-le-suc h) ∙ has-suc i b) in
    let odd : a % 2 ≡ b % 2 = is_one_same (a % 2) (b % 2) (digit_lt a) (digit_lt b) (sym (has_zero a) ∙ e zero (zero-lt-suc k) ∙ has_zero b) in
    omega arith

-- A mask with no item is 0.
pub empty : (k m : ℕ) → m < 2 ^ k → ((i : ℕ) → i < k → has i m ≡ false) → m ≡ 0
empty k m h f = mask_ext k m 0 h (pow_pos k) (λ i l. f i l ∙ sym (has_none i))

-- Every number has a width,
own_width : (m : ℕ) → m < 2 ^ m
own_width zero = zero-lt-suc 0
own_width (suc m) = omega (arith, pow-suc 2 m, own_width m)

-- so one whose items all stand below k has width k.
pub below_lt : (k m : ℕ) → ((i : ℕ) → has i m ≡ true → i < k) → m < 2 ^ k
below_lt zero m f = omega (arith, empty m m (own_width m) (λ i h. fails (has i m) (λ e. not-suc-le-zero (f i e))))
below_lt (suc k) m f = omega (arith, pow-suc 2 k, below_lt k (m / 2) (λ i e. le_of_suc-le-suc (f (suc i) (has-suc i m ∙ e))))

-- ---- one within another

pub within_has : (k a b : ℕ) → within k a b ≡ true → (i : ℕ) → i < k → has i a ≡ true → has i b ≡ true
unfolding within
within_has k a b e i h = imp (has i a) (has i b) (every_at k (λ i. not (has i a) || has i b) e i h)

pub within_of : (k a b : ℕ) → ((i : ℕ) → i < k → has i a ≡ true → has i b ≡ true) → within k a b ≡ true
unfolding within
within_of k a b f = every_of k (λ i. not (has i a) || has i b) (λ i h. imp_of (has i a) (has i b) (f i h))

-- ---- the lowest item

-- The machine's count of trailing zeros.
pub trailing_lowest : (k m : ℕ) → count_trailing_zeros k m ≡ lowest k (λ i. has i m)
unfolding count_trailing_zeros lowest
trailing_lowest zero m = refl
trailing_lowest (suc k) m =
    let rest = lowest k (λ i. has (suc i) m) in
    ap (under (m % 2)) (trailing_lowest k (m / 2) ∙ ap (lowest k) (fun_ext (λ i. sym (has-suc i m))))
    ∙ two_digits (λ (x : ℕ). under x rest ≡ cond (is_one x) zero (suc rest)) refl refl (m % 2) (digit_lt m)
    ∙ ap (λ (b : Bool). cond b zero (suc rest)) (sym (has_zero m))
