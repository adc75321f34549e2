-- How many items a mask has: at most its width, no more than a mask that it is within, and more with a new item.
use Prim.Native.Nat.{ℕ, zero, suc, ◌/◌, ◌%◌, ◌≤◌, ◌<◌, zero-le, suc-le-suc}
use mathlib.Core.Path.{◌≡◌, refl, sym, ◌∙◌}
use mathlib.Core.Bool.{true, false, true≢false, false≢true}
use native.Mathlib.Nat.{zero-lt-suc, not-suc-le-zero, le_of_suc-le-suc, le_refl, add-le-add}
use native.Mathlib.Omega.{arith}
use Rattle.mask.specs.Mask.{has, plus}
use Rattle.mask.specs.Sets.{within, size}
use Rattle.mask.proofs.Digits.{is_one, digit_lt, four_digits}
use Rattle.mask.proofs.Items.{has_zero, has-suc, plus-within, plus-has}
use Rattle.mask.proofs.Width.{within_has, within_of}

pub size_le : (k m : ℕ) → size k m ≤ k
unfolding size
size_le zero m = zero-le
size_le (suc k) m = omega (arith, size_le k (m / 2), digit_lt m)

-- ---- one mask within another

half_within : (k a b : ℕ) → within (suc k) a b ≡ true → within k (a / 2) (b / 2) ≡ true
half_within k a b w =
    within_of k (a / 2) (b / 2) (λ i h e. sym (has-suc i b) ∙ within_has (suc k) a b w (suc i) (suc-le-suc h) (has-suc i a ∙ e))

digit_le : (a b : ℕ) → (has 0 a ≡ true → has 0 b ≡ true) → a % 2 ≤ b % 2
digit_le a b f =
    four_digits (λ (x y : ℕ). (is_one x ≡ true → is_one y ≡ true) → x ≤ y)
    (λ g. zero-le) (λ g. zero-le) (λ g. absurd (false≢true (g refl))) (λ g. le_refl 1)
    (a % 2) (b % 2) (digit_lt a) (digit_lt b) (λ e. sym (has_zero b) ∙ f (has_zero a ∙ e))

digit_more : (a b : ℕ) → has 0 a ≡ false → has 0 b ≡ true → a % 2 < b % 2
digit_more a b f e =
    four_digits (λ (x y : ℕ). is_one x ≡ false → is_one y ≡ true → x < y)
    (λ p q. absurd (false≢true q)) (λ p q. zero-lt-suc 0) (λ p q. absurd (true≢false p)) (λ p q. absurd (true≢false p))
    (a % 2) (b % 2) (digit_lt a) (digit_lt b) (sym (has_zero a) ∙ f) (sym (has_zero b) ∙ e)

-- It has no more items,
pub size-within : (k a b : ℕ) → within k a b ≡ true → size k a ≤ size k b
unfolding size
size-within zero a b w = zero-le
size-within (suc k) a b w =
    add-le-add (digit_le a b (within_has (suc k) a b w 0 (zero-lt-suc k))) (size-within k (a / 2) (b / 2) (half_within k a b w))

-- and fewer where the other has one that it has not.
pub size_less : (k a b j : ℕ) → within k a b ≡ true → j < k → has j a ≡ false → has j b ≡ true → size k a < size k b
unfolding size
size_less zero a b j w l f e = absurd (not-suc-le-zero l)
size_less (suc k) a b zero w l f e =
    omega (arith, digit_more a b f e, size-within k (a / 2) (b / 2) (half_within k a b w))
size_less (suc k) a b (suc j) w l f e =
    omega (arith, digit_le a b (within_has (suc k) a b w 0 (zero-lt-suc k)), size_less k (a / 2) (b / 2) j (half_within k a b w) (le_of_suc-le-suc l) (sym (has-suc j a) ∙ f) (sym (has-suc j b) ∙ e))

-- A new item below the width.
pub size-plus : (k m i : ℕ) → i < k → has i m ≡ false → size k m < size k (plus m i)
size-plus k m i l f = size_less k m (plus m i) i (within_of k m (plus m i) (λ j h e. plus-within m i j e)) l f (plus-has m i)
