-- 20, else what the attempt did.
use mathlib.Core.Path.{◌≡◌, ap}
use Rattle.std.specs.Prelude.{Result, Ok, Err, MatchResult}
use Rattle.machine.specs.declared.Answer.{Answer}
use Rattle.population.specs.declared.Refusal.{Refusal}
use Rattle.population.specs.Refusals.{refused, answer_or}
use native.Mathlib.Omega.{arith}
use Rattle.std.proofs.lemmas.Grind.{common_steps}
use mathlib.Core.Bool.{not}
use Rattle.population.proofs.Lent.{asked_bad, asked}
use Rattle.dispatch.proofs.run_call.Goals as goal

answered : (r : Result Answer Refusal) (a : Answer) → MatchResult r (λ x. a ≡ x) (λ e. a ≡ refused e) → a ≡ answer_or r
answered (Ok x) a e = e
answered (Err x) a e = e

pub returns-then-not-is_well_formed : goal.returns-then-not-is_well_formed
returns-then-not-is_well_formed c = asked_bad _ _ _ _ _ c.is_well_formed.ensures (ap not c.if-not-is_well_formed.true) _ (grind (arith, common_steps))

pub returns : goal.returns
returns c =
    asked _ _ _ _ _ c.is_well_formed.ensures (ap not c.if-not-is_well_formed.false) _ _ _
    (rw (answered c.attempt.result c.unwrap_or_else.result c.unwrap_or_else.ensures) c.attempt.ensures)
