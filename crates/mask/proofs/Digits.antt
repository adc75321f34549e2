-- The lowest digit of a number in base two, `m % 2`, and the number without it, `m / 2`.
use Prim.Native.Nat.{ℕ, zero, suc, ◌-◌, ◌/◌, ◌%◌, ◌^◌, ◌<◌, min, max}
use mathlib.Core.Path.{◌≡◌, refl, ap, ◌∙◌}
use mathlib.Core.Bool.{Bool, not, ◌&&◌, ◌||◌, true≢false, false≢true}
use native.Mathlib.Nat.{pow-suc, mod-lt, zero-lt-suc, not-suc-le-zero, le_of_suc-le-suc}
use native.Mathlib.Omega.{arith}
use lib.Dec.{eqb}
use lib.Arith.{digits_mod}
use lib.Bits.{bit_and, bit_or, and_step, or_step}

-- What is so of 0 and of 1 is so of a digit,
pub two_digits : (P : ℕ → Type 0) → P 0 → P 1 → (x : ℕ) → x < 2 → P x
two_digits P p q zero h = p
two_digits P p q (suc zero) h = q
two_digits P p q (suc (suc x)) h = absurd (not-suc-le-zero (le_of_suc-le-suc (le_of_suc-le-suc h)))

-- and what is so in the four cases is so of two digits.
pub four_digits : (P : ℕ → ℕ → Type 0) → P 0 0 → P 0 1 → P 1 0 → P 1 1 → (x y : ℕ) → x < 2 → y < 2 → P x y
four_digits P a b c d x y hx hy =
    two_digits (λ (x : ℕ). P x y) (two_digits (λ (y : ℕ). P 0 y) a b y hy) (two_digits (λ (y : ℕ). P 1 y) c d y hy) x hx

-- The digit is 1.
abbrev pub is_one : ℕ → Bool
is_one x = eqb x 1

pub is_one_max : (x y : ℕ) → x < 2 → y < 2 → is_one (max x y) ≡ (is_one x || is_one y)
is_one_max = four_digits (λ (x y : ℕ). is_one (max x y) ≡ (is_one x || is_one y)) refl refl refl refl

pub is_one_min : (x y : ℕ) → x < 2 → y < 2 → is_one (min x y) ≡ (is_one x && is_one y)
is_one_min = four_digits (λ (x y : ℕ). is_one (min x y) ≡ (is_one x && is_one y)) refl refl refl refl

pub is_one_less : (x y : ℕ) → x < 2 → y < 2 → is_one (x - min x y) ≡ (is_one x && not (is_one y))
is_one_less = four_digits (λ (x y : ℕ). is_one (x - min x y) ≡ (is_one x && not (is_one y))) refl refl refl refl

-- Digits of which both are 1 or neither is are equal.
pub is_one_same : (x y : ℕ) → x < 2 → y < 2 → is_one x ≡ is_one y → x ≡ y
is_one_same =
    four_digits (λ (x y : ℕ). is_one x ≡ is_one y → x ≡ y) (λ e. refl) (λ e. absurd (false≢true e)) (λ e. absurd (true≢false e)) (λ e. refl)

pub digit_lt : (m : ℕ) → m % 2 < 2
digit_lt m = mod-lt m (zero-lt-suc 1)

pub or_digit : (a b : ℕ) → bit_or a b % 2 ≡ max (a % 2) (b % 2)
or_digit a b = ap (λ (x : ℕ). x % 2) (or_step a b) ∙ digits_mod (bit_or (a / 2) (b / 2)) (omega (arith, digit_lt a, digit_lt b))

pub and_digit : (a b : ℕ) → bit_and a b % 2 ≡ min (a % 2) (b % 2)
and_digit a b = ap (λ (x : ℕ). x % 2) (and_step a b) ∙ digits_mod (bit_and (a / 2) (b / 2)) (omega (arith, digit_lt a, digit_lt b))

-- Without its lowest digit a number has one digit less.
pub half_lt : (k m : ℕ) → m < 2 ^ suc k → m / 2 < 2 ^ k
half_lt k m h = omega (arith, pow-suc 2 k)
