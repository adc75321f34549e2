-- What accepted and broken say of two texts: both read, and every rule holds, or the breach is the first broken rule.
-- Not to be believed beside Judge.antt: the laws `accepted_exactly` and `broken_exactly` say that the two are the same.
use Rattle.std.specs.Prelude.{ℕ, ◌≡◌, List}
use Rattle.plan.specs.declared.Plan.{Plan}
use Rattle.plan.specs.declared.Policy.{Policy}
use Rattle.text.specs.Reading.{Complete, read_plan, read_policy}
use Rattle.rules.specs.declared.Breach.{Breach}
use Rattle.rules.specs.Rules.{EveryRule}
use Rattle.rules.specs.Broken.{FirstBroken}

-- What the texts say, where they read.
abbrev pub plan_of : List ℕ → Plan
plan_of plan_text = (read_plan plan_text).plan

abbrev pub policy_of : List ℕ → List ℕ → Policy
policy_of plan_text policy_text = (read_policy (plan_of plan_text).count policy_text).policy

pub record Acceptable (plan_text policy_text : List ℕ) : Type 0 where
  pub plan_reads : (read_plan plan_text).answer ≡ Complete
  pub policy_reads : (read_policy (plan_of plan_text).count policy_text).answer ≡ Complete
  pub rules : EveryRule (plan_of plan_text) (policy_of plan_text policy_text)

pub record Breached (plan_text policy_text : List ℕ) (b : Breach) : Type 0 where
  pub plan_reads : (read_plan plan_text).answer ≡ Complete
  pub policy_reads : (read_policy (plan_of plan_text).count policy_text).answer ≡ Complete
  pub first : FirstBroken (plan_of plan_text) (policy_of plan_text policy_text) b
