-- The row of tags of a child.
-- Not to be believed: nothing is stated of an operation by these alone.
use Rattle.std.specs.Prelude.{ℕ, cond}
use Rattle.mask.specs.Mask.{has}

-- Tag i of a child whose template creates the identifiers of a mask.
unfoldable pub child_tag : ℕ → ℕ → ℕ → ℕ → ℕ
child_tag serial creates parent i = cond (has i creates) serial parent
