-- The ways through the judge, as the code meets them: each callee's answer is a variable.
use Prim.Native.Nat.{ℕ}
use mathlib.Core.Path.{◌≡◌, sym, ap, subst, ◌∙◌}
use mathlib.Core.List.{List}
use Rattle.std.specs.Prelude.{Result, Ok, Err, IsErrAnd}
use Rattle.plan.specs.declared.Plan.{Plan}
use Rattle.plan.specs.declared.Policy.{Policy}
use Rattle.plan.specs.Range.{InRange}
use Rattle.text.specs.declared.Refused.{Refused as RefusedLine}
use Rattle.text.specs.Reading.{PlanRead, read_plan}
use Rattle.text.specs.Answers.{plan_read}
use Rattle.reader.proofs.Range.{plan_in_range}
use Rattle.rules.specs.declared.Breach.{Breach}
use Rattle.rules.specs.declared.Verdict.{Verdict}
use Rattle.rules.specs.Judge.{or_else, check11, check_edges, check_assertions, judge_read}
use Rattle.rules.specs.Broken.{answered}
use Rattle.rules.proofs.Walk.{or_stops, or_goes}

-- ---- what was read

module _ (plan : Plan) (policy : Policy) (v : Result (Unit {0}) Breach) (e : answered v ≡ check11 plan) where
  abbrev later : Verdict
  later = or_else (check_edges plan) (check_assertions plan policy)

  pub stopped_11 : (b : Breach) → v ≡ Err b → (s : Result (Unit {0}) Breach) → IsErrAnd s (λ x. x ≡ b) → answered s ≡ judge_read plan policy
  unfolding judge_read
  stopped_11 b h s k = or_stops v (check11 plan) later b e h s k

  module _ (u : Unit {0}) (f : v ≡ Ok u) (w : Result (Unit {0}) Breach) (h : answered w ≡ check_edges plan) where
    passed_11 : later ≡ judge_read plan policy
    unfolding judge_read
    passed_11 = or_goes v (check11 plan) later u e f

    pub stopped_edges : (b : Breach) → w ≡ Err b → (s : Result (Unit {0}) Breach) → IsErrAnd s (λ x. x ≡ b) → answered s ≡ judge_read plan policy
    stopped_edges b g s k = or_stops w (check_edges plan) (check_assertions plan policy) b h g s k ∙ passed_11

    pub passed_edges : (u : Unit {0}) → w ≡ Ok u → (r : Result (Unit {0}) Breach) → answered r ≡ check_assertions plan policy → answered r ≡ judge_read plan policy
    passed_edges u g r m = m ∙ or_goes w (check_edges plan) (check_assertions plan policy) u h g ∙ passed_11

-- ---- the plan

module _ (plan policy : List ℕ) (p : Result Plan RefusedLine) (e : plan_read p ≡ read_plan plan) where
  read_as : (q : Result Plan RefusedLine) → p ≡ q → read_plan plan ≡ plan_read q
  read_as q h = sym e ∙ ap plan_read h

  pub plan_range : (q : Plan) → p ≡ Ok q → InRange q
  plan_range q h =
      subst (λ (x : PlanRead). InRange x.plan) (read_as (Ok q) h)
      (plan_in_range plan (ap (λ (x : PlanRead). x.answer) (read_as (Ok q) h)))
