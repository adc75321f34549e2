-- Past the places of a plan's and a policy's arrays stands what is blank.
use Prim.Native.Nat.{ℕ, ◌≤◌}
use mathlib.Core.Path.{◌≡◌, sym}
use lib.ListN.{length}
use Rattle.lists.proofs.Length.{past_end}
use Rattle.plan.specs.declared.Template.{Template}
use Rattle.plan.specs.declared.Plan.{Plan}
use Rattle.plan.specs.declared.Assertion.{Assertion}
use Rattle.plan.specs.declared.Policy.{Policy}
use Rattle.plan.specs.Plan.{blank, blank_assertion, at, assertion_at}

pub template_past : (plan : Plan) → length plan.templates ≡ 64 → (X : ℕ) → 64 ≤ X → at plan X ≡ blank
unfolding at
template_past plan e X h = sym (past_end Template plan.templates 64 X blank e h)

pub assertion_past : (policy : Policy) → length policy.assertions ≡ 32 → (i : ℕ) → 32 ≤ i
    → assertion_at policy i ≡ blank_assertion
unfolding assertion_at
assertion_past policy e i h = sym (past_end Assertion policy.assertions 32 i blank_assertion e h)
