-- Numbers in base 16, with small letters.
use Rattle.std.specs.Prelude.{ℕ, ◌+◌, ◌/◌, ◌%◌, List, [], ◌∷◌, ◌++◌, nat_lt, if◌then◌else◌}

-- the byte of a digit: `0` to `9`, then `a` to `f`
abbrev pub hex_digit_of : ℕ → ℕ
hex_digit_of d = if nat_lt d 10 then d + 48 else d + 87

-- two digits of a byte
abbrev pub hex_byte_of : ℕ → List ℕ
hex_byte_of b = hex_digit_of (b / 16) ∷ hex_digit_of (b % 16) ∷ []

-- eight digits of a number below 2^32
abbrev pub hex_word_of : ℕ → List ℕ
hex_word_of n = hex_byte_of (n / 16777216) ++ hex_byte_of (n / 65536 % 256) ++ hex_byte_of (n / 256 % 256) ++ hex_byte_of (n % 256)
