-- What a loop that stores into a list leaves at each place.
-- Not to be believed: nothing is stated of an operation by it alone.
use Rattle.std.specs.Prelude.{ℕ, ◌+◌, ◌-◌, ◌&&◌, cond, List, get_or, ltb, leb}

-- At the n places from `from` on stands what f says, and elsewhere what stood there.
unfoldable pub written : List ℕ → ℕ → ℕ → (ℕ → ℕ) → ℕ → ℕ
written xs from n f j = cond (leb from j && ltb j (from + n)) (f (j - from)) (get_or xs j 0)
