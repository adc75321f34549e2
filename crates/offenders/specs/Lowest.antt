-- The lowest number below a limit that passes a test, where there is one.
-- Not to be believed: Judge.antt's `lowest`, which the contracts of the rules name, is the limit where there is none.
use Rattle.std.specs.Prelude.{ℕ, Bool, cond, ltb, Option, Some, None}
use Rattle.lists.specs.Numbers.{lowest}

abbrev pub lowest_of : ℕ → (ℕ → Bool) → Option ℕ
lowest_of limit test = cond (ltb (lowest limit test) limit) (Some (lowest limit test)) None
