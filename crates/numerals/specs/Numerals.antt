-- Numbers as they are written: their digits, the highest first.
-- Believed: everything here. What `judge` prints and the printed texts are written with these; proved against them: write_decimal.
use Rattle.std.specs.Prelude.{ℕ, zero, suc, ◌+◌, ◌/◌, ◌%◌, ◌^◌}
use mathlib.Core.{Bool.{cond}, List.{List, [], ◌∷◌}}
use Rattle.std.specs.Prelude.{ltb}
use Rattle.lists.specs.Numbers.{lowest}

-- The byte of a digit: 0-9, then a-f.
unfoldable pub numeral : ℕ → ℕ
numeral d = cond (ltb d 10) (d + 48) (d + 87)

-- So many digits of n in a base, the highest first.
unfoldable pub spell : ℕ → ℕ → ℕ → List ℕ
spell base zero n = []
spell base (suc width) n = numeral (n / base ^ width) ∷ spell base width (n % base ^ width)

-- As many decimal digits as a number needs, and one for 0: from 1 on the first width that has room for it. No number here has
-- more than ten digits.
unfoldable pub decimal_width : ℕ → ℕ
decimal_width n = suc (lowest 9 (λ w. ltb n (10 ^ suc w)))

-- "A count or template number is decimal, [..] no leading zero except in `0`."
unfoldable pub decimal_of : ℕ → List ℕ
decimal_of n = spell 10 (decimal_width n) n
