-- Two parts of `judge` of crate rules, as the code makes them.
-- Not to be believed: the contract of judge names `judge` alone.
use Rattle.std.specs.Prelude.{ℕ, List}
use Rattle.plan.specs.declared.Plan.{Plan}
use Rattle.text.specs.Reading.{Refusal, read_policy}
use Rattle.rules.specs.declared.Text.{Text}
use Rattle.rules.specs.declared.Text.TheVariants.{Policy as PolicyText}
use Rattle.rules.specs.declared.Verdict.{Verdict}
use Rattle.rules.specs.declared.Verdict.TheVariants.{Unread}
use Rattle.rules.specs.Judge.{judge_read, after_reading}

-- A text that was refused.
unfoldable pub unread : Text → Refusal → Verdict
unread text r = Unread (record { text = text; number = r.number; line = r.line })

-- The policy text over a plan that was read.
unfoldable pub judge_over : Plan → List ℕ → Verdict
judge_over plan policy_text =
    let policy = read_policy plan.count policy_text in
    after_reading PolicyText policy.answer (judge_read plan policy.policy)
