-- What the code of crate policies gives on its way: the row of assertions, filled one by one.
-- Not to be believed: the contract of read_policy does not name it.
use Rattle.std.specs.Prelude.{ℕ, List, replicate}
use Rattle.plan.specs.declared.Assertion.{Assertion}
use Rattle.plan.specs.Plan.{blank_assertion}
use Rattle.text.specs.Reading.{Reader, assertion}
use Rattle.reader.specs.Rows.{filled}

abbrev pub assertion_row : ℕ → ℕ → Reader (List Assertion)
assertion_row N K = filled {S = Unit {0}} (λ u. assertion N) (λ u a. u) (λ a. a) tt 0 (replicate 32 blank_assertion) K
