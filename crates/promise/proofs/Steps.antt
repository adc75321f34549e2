-- The promise's steps: a process that has not moved its own label wears the identifiers of its template's label, and of
-- those rules 12, 13 and 16 hold on every edge. So refusal 25, which asks the same of the label, is not given.
use Prim.Native.Nat.{ℕ}
use native.Mathlib.Omega.{arith}
use mathlib.Core.Path.{◌≡◌, refl}
use mathlib.Core.Logic.{◌≢◌}
use mathlib.Core.List.{List}
use mathlib.Core.Option.{Option, none, some}
use mathlib.Core.Bool.{Bool, true, false, not, false≢true}
use Rattle.lists.specs.Numbers.{all}
use Rattle.plan.specs.declared.{Plan.{Plan}, Policy.{Policy}}
use Rattle.plan.specs.Plan.{at, Successor}
use Rattle.plan.specs.Range.{InRange}
use Rattle.rules.specs.Rules.{EveryRule}
use Rattle.machine.specs.declared.Answer.{TheVariants.{Done, Refused}}
use Rattle.machine.specs.Machine.{Process, Limits, step, refuse_if, settled, find, may_become, step_answer, step_by, answer_to}
use Rattle.machine.proofs.Outcomes.{refused_number}
use Rattle.machine.proofs.Templates.{children_at, children_are}
use Rattle.machine.proofs.Live.{population}
use Rattle.promise.specs.History.{History}
use Rattle.promise.proofs.Accepted.{Passes, passes_alike, passes_all, edges_pass}
use Rattle.promise.proofs.Family.{Family}
use Rattle.promise.proofs.Calls.{machine_with}

-- Refusals in order of which the last test does not hold do not come to 25.
never_25 : (a b c d : Bool) → d ≡ true → refuse_if a 22 (refuse_if b 23 (refuse_if c 24 (refuse_if (not d) 25 Done))) ≢ Refused 25
unfolding refuse_if
never_25 true b c d t e = let z = refused_number 22 25 e in omega arith
never_25 false true c d t e = let z = refused_number 23 25 e in omega arith
never_25 false false true d t e = let z = refused_number 24 25 e in omega arith
never_25 false false false true t e = let z : ◌≡◌ {A = ℕ} 0 1 = cc in omega arith
never_25 false false false false t e = absurd (false≢true t)

module _ (plan : Plan) (range : InRange plan) (policy : Policy) (rules : EveryRule plan policy)
    (next : ℕ) (live : List Process) (H : History) (g : Family plan next (population live) H) (s : ℕ) (unmoved : (H s).moved ≡ false) where
  -- An unmoved process may have a child at each successor,
  unmoved_passes : (p : Process) → find s live ≡ some p → (Y : ℕ) → Successor plan p.template Y → Passes plan p.label p.template Y
  unmoved_passes p e Y edge =
      let fit = g.fits s p e in
      passes_alike plan p.label (at plan (H s).template).lab p.template Y (fit.unmoved unmoved)
      (rw fit.template (edges_pass plan range policy rules (H s).template Y (rw fit.template at edge)))

  -- so no step of it is refused over labels.
  pub not_25 : (limits : Limits) (branch : ℕ) → (answer_to limits (machine_with plan next live) (step s branch)).answer ≢ Refused 25
  unfolding answer_to step_by step_answer settled
  not_25 limits branch = pick (find s live) refl
    where
      pick : (o : Option Process) → find s live ≡ o → (step_by limits (machine_with plan next live) s branch o).answer ≢ Refused 25
      pick none e = λ r. let z = refused_number 21 25 r in omega arith
      pick (some p) e =
          let templates : List ℕ = children_at plan p.template branch in
          never_25 _ _ _ (all (may_become plan p.label p.template) templates)
          (passes_all plan p.label p.template templates (children_are (Passes plan p.label p.template) (at plan p.template).form branch (unmoved_passes p e)))
