-- What calls on the lent memory answer, as the code meets it.
use Prim.Native.Nat.{ℕ}
use mathlib.Core.Path.{◌≡◌, refl, ap, ◌∙◌, subst}
use mathlib.Core.Bool.{false}
use mathlib.Core.List.{List}
use mathlib.Core.Option.{Option, none, some}
use Rattle.plan.specs.declared.Plan.{Plan}
use Rattle.planrow.specs.Row.{plan_of_row}
use Rattle.planrow.specs.Lookup.{plan_for}
use Rattle.planrow.proofs.Fits.{unfit_not}
use Rattle.planrow.proofs.Lookup.{stands_for, means_none}
use Rattle.machine.specs.declared.Answer.{Answer}
use Rattle.machine.specs.Machine.{Machine, Outcome, Call, box_limits, plan_fits, run}
use Rattle.machine.specs.State.{Cells, code_of}
use Rattle.population.specs.declared.Counts.{Counts}
use Rattle.population.specs.Lent.{Did}
use Rattle.promise.specs.Replay.{call_at, calls_in}
use Rattle.playback.specs.Running.{Memory, machine_in, Leaves, PlayedAll}
use Rattle.playback.proofs.Unfit.{unfit, unfit_kept, unfit_after, unfit_through}
use Rattle.playback.proofs.Leaves.{memory_at, did_leaves}
use Rattle.memory.specs.Memory.{Answers, Runs}

-- ---- the row

-- A row that means no plan stands for one that does not fit.
module _ (plan : Plan) (f : plan_fits plan ≡ false) where
  unfit_runs : (words : List ℕ) (met : Memory) (places : List ℕ) (n : ℕ) (left : Memory) (filled : List ℕ)
      → PlayedAll (machine_in plan) (Leaves plan) words met places n left filled → Runs none words met places n left filled
  unfolding Runs code_of
  unfit_runs words met places n left filled w = (
    w.counted,
    record {
      each = λ j h.
          w.played.each j h
          ∙ ap (λ (m : Machine). code_of (run box_limits m (call_at words j)).answer) (unfit_after plan f met (calls_in j words))
          ∙ ap (λ (o : Outcome). code_of o.answer) (unfit plan f met (call_at words j));
      rest = w.played.rest;
    },
    unfit_through plan f (call_at words) met w.played.through,
  )

-- What the row that the code works on stands for answers as the plan that it means, or as none.
module _ (row : List ℕ) where
  answers_row : (call : Call) (before after : Memory) (q : ℕ) → Answers (some (plan_for row)) call before q after
      → Answers (plan_of_row row) call before q after
  unfolding Answers code_of
  answers_row call before after q w = pick (plan_of_row row) refl
    where
      pick : (p : Option Plan) → plan_of_row row ≡ p → Answers p call before q after
      pick none e =
          let f = unfit_not row (means_none row e) in
          (w.0 ∙ ap (λ (o : Outcome). code_of o.answer) (unfit (plan_for row) f before call), unfit_kept (plan_for row) f before call (after ≡ before) w.1.does.literal)
      pick (some plan) e = subst (λ (p : Plan). Answers (some p) call before q after) (stands_for row plan e) w

  pub runs_row : (words : List ℕ) (met : Memory) (places : List ℕ) (n : ℕ) (left : Memory) (filled : List ℕ)
      → PlayedAll (machine_in (plan_for row)) (Leaves (plan_for row)) words met places n left filled → Runs (plan_of_row row) words met places n left filled
  unfolding Runs
  runs_row words met places n left filled w = pick (plan_of_row row) refl
    where
      pick : (p : Option Plan) → plan_of_row row ≡ p → Runs p words met places n left filled
      pick none e = unfit_runs (plan_for row) (unfit_not row (means_none row e)) words met places n left filled w
      pick (some plan) e = subst (λ (p : Plan). PlayedAll (machine_in p) (Leaves p) words met places n left filled) (stands_for row plan e) w

-- ---- one call

-- As the code meets it: q is the answer as a number.
pub answered : (n : Counts) (c : Cells) (a : Answer) (n' : Counts) (d : Cells) (row : List ℕ) (call : Call) (q : ℕ) → q ≡ code_of a
    → Did (plan_for row) n c call a n' d → Answers (plan_of_row row) call (memory_at n c) q (memory_at n' d)
unfolding Answers machine_in
answered n c a n' d row call q eq w =
    answers_row row call (memory_at n c) (memory_at n' d) q
    (eq ∙ ap (λ (o : Outcome). code_of o.answer) w.means, did_leaves n c n' d (plan_for row) call a w)
