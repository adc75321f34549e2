-- What the tests over lent arrays ask at each place. A range is n places from `from` on.
-- Not to be believed: nothing is stated of an operation by these alone.
use Rattle.std.specs.Prelude.{ℕ, ◌+◌, ◌-◌, Bool, List, get_or, length, ltb, leb}
use Rattle.lists.specs.Numbers.{every}

-- The range stands in the list.
unfoldable pub holds : List ℕ → ℕ → ℕ → Bool
holds xs from n = leb (from + n) (length xs)

-- Each number is below the one after it.
unfoldable pub rises : List ℕ → Bool
rises xs = every (length xs - 1) (λ i. ltb (get_or xs i 0) (get_or xs (i + 1) 0))
