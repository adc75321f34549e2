-- What copying and moving blocks of words leaves at each place.
-- Not to be believed: nothing is stated of an operation by these alone.
use Rattle.std.specs.Prelude.{ℕ, ◌+◌, ◌&&◌, cond, List, get_or, ltb, leb}
use Rattle.ranges.specs.Ranges.{holds}

-- How many words are copied: all n where both ranges stand in their lists, and none otherwise.
unfoldable pub copied : List ℕ → ℕ → List ℕ → ℕ → ℕ → ℕ
copied words from into at n = cond (holds words from n && holds into at n) n 0

-- From `from` up to `to` stands what stood `by` places further on, and elsewhere what stood there.
unfoldable pub shifted : List ℕ → ℕ → ℕ → ℕ → ℕ → ℕ
shifted xs from to by j = cond (leb from j && ltb j to) (get_or xs (j + by) 0) (get_or xs j 0)
