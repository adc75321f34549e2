-- Reading and writing are inverse to one another: what is written reads back, and only what is written reads. So a plan with
-- its names has one text, and a policy has one (`one_text`, `one_policy-text`).
-- Believed: the two statements; `plan_format` and `policy_format` prove them.
use Rattle.std.specs.Prelude.{ℕ, ◌≤◌}
use mathlib.Core.{Path.{◌≡◌}, List.{List}}
use Rattle.plan.specs.{declared.{Plan.{Plan}, Policy.{Policy}}, Range.{PolicyInRange}}
use Rattle.text.specs.Reading.{Complete, read_plan, read_policy}
use Rattle.reader.specs.Names.{plan_names}
use Rattle.printing.specs.{Printing.{print_plan, print_policy}, Printable.{Printable}}

pub record PlanFormat : Type 0 where
  pub back : (plan : Plan) (names : List (List ℕ)) → Printable plan names
      → (read_plan (print_plan plan names) ≡ record { answer = Complete; plan = plan })
      × (plan_names (print_plan plan names) ≡ names)
  pub only : (text : List ℕ) → (read_plan text).answer ≡ Complete
      → Printable (read_plan text).plan (plan_names text) × (text ≡ print_plan (read_plan text).plan (plan_names text))

-- The same for a policy over the N templates of a plan.
pub record PolicyFormat : Type 0 where
  pub back : (N : ℕ) (policy : Policy) → N ≤ 64 → PolicyInRange N policy
      → read_policy N (print_policy policy) ≡ record { answer = Complete; policy = policy }
  pub only : (N : ℕ) (text : List ℕ) → (read_policy N text).answer ≡ Complete
      → PolicyInRange N (read_policy N text).policy × (text ≡ print_policy (read_policy N text).policy)
