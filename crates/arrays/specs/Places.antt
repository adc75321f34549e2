-- Where a serial stands among the numbers of a lent array.
-- Not to be believed: nothing is stated of an operation by these alone.
use Rattle.std.specs.Prelude.{ℕ, ◌≤◌, ◌<◌, ◌≡◌, true, List, get_or, length, eqb, Option, None, Some}
use Rattle.lists.specs.Numbers.{lowest}
use Rattle.ranges.specs.Ranges.{rises}

-- Of the first n numbers, those before `low` are below s, and the others are not.
pub record Split (xs : List ℕ) (n s low : ℕ) : Type 0 where
  pub under : (i : ℕ) → i < low → get_or xs i 0 < s
  pub over : (i : ℕ) → low ≤ i → i < n → s ≤ get_or xs i 0

-- Where the serial s stands among the numbers, if they rise, and how many there are where none has it.
abbrev pub Located : List ℕ → ℕ → ℕ → Type 0
Located xs s r = rises xs ≡ true → r ≡ lowest (length xs) (λ i. eqb (get_or xs i 0) s)

-- The place found, and the number of places where none is.
abbrev pub place_or : ℕ → Option ℕ → ℕ
place_or n None = n
place_or n (Some k) = k
