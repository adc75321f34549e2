-- What is written into a list from a place on.
-- Not to be believed: who prints a verdict has room for all of it.
use Rattle.std.specs.Prelude.{ℕ, ◌+◌}
use mathlib.Core.{Bool.{cond}, List.{List, []}}
use Rattle.std.specs.Prelude.{length, leb}

-- All of the bytes where they fit from that place on, and otherwise none.
unfoldable pub fitting : List ℕ → ℕ → List ℕ → List ℕ
fitting xs at bytes = cond (leb (at + length bytes) (length xs)) bytes []
