-- What play leaves, as the code meets it: s is the state that it got, and row the one that it lent. What a call does over
-- the row of a plan it does over the plan: the row lacks only what stands past N, and one that has no row makes every
-- call 20.
use Prim.Native.Nat.{ℕ}
use mathlib.Core.Path.{◌≡◌, refl, sym, ap, ◌∙◌, subst}
use mathlib.Core.Bool.{Bool, true, false}
use mathlib.Core.List.{List}
use Rattle.plan.specs.declared.Plan.{Plan}
use Rattle.planrow.specs.Row.{row_of_plan}
use Rattle.planrow.specs.Lookup.{plan_for}
use Rattle.planrow.proofs.Stands.{alike, fit_row, unfit as row-unfit}
use Rattle.machine.specs.declared.State.{State}
use Rattle.machine.specs.Machine.{Machine, Outcome, Call, box_limits, plan_fits, run}
use Rattle.machine.specs.State.{processes_of, machine_from, machine_of}
use Rattle.machine.proofs.Alike.{Alike, on_plan, outcome_on, run_alike}
use Rattle.population.specs.Lent.{counts}
use Rattle.monitor.proofs.Kept.{rebuilt}
use Rattle.playback.specs.Playback.{Does}
use Rattle.playback.specs.Running.{Memory, memory_of, machine_in, Leaves, PlayedAll}
use Rattle.playback.proofs.Through.{played_along}
use Rattle.playback.proofs.Unfit.{unfit, unfit_kept}

module _ (plan : Plan) where
  abbrev stood : Plan
  stood = plan_for (row_of_plan plan)

  -- Calls have the same answers, and leave the same memory.
  record Agree : Type 0 where
    answers : (m : Memory) (call : Call) → (run box_limits (machine_in plan m) call).answer ≡ (run box_limits (machine_in stood m) call).answer
    leaves : (m m' : Memory) (call : Call) → Does (machine_in stood) call m m' → machine_in plan m' ≡ (run box_limits (machine_in plan m) call).machine

  module _ (f : plan_fits plan ≡ true) where
    same : Alike stood plan
    same = alike plan (fit_row plan f)

    over : (m : Memory) → machine_in plan m ≡ on_plan plan (machine_in stood m)
    unfolding machine_in machine_from
    over m = ap (λ (M : ℕ). record { plan = plan; next = m.next; live = processes_of M m.live m.cells }) (sym same.identifiers_same)

    runs : (m : Memory) (call : Call) → run box_limits (machine_in plan m) call ≡ outcome_on plan (run box_limits (machine_in stood m) call)
    unfolding machine_in machine_from
    runs m call = ap (λ (m : Machine). run box_limits m call) (over m) ∙ run_alike box_limits stood plan same (machine_in stood m) call

    agree_fit : Agree
    agree_fit = record {
      answers = λ m call. ap (λ (o : Outcome). o.answer) (runs m call);
      leaves = λ m m' call w. over m' ∙ ap (on_plan plan) w.machine ∙ sym (ap (λ (o : Outcome). o.machine) (runs m call));
    }

  agree_unfit : plan_fits plan ≡ false → Agree
  agree_unfit f =
      let g = row-unfit plan f in
      record {
        answers = λ m call. ap (λ (o : Outcome). o.answer) (unfit plan f m call) ∙ sym (ap (λ (o : Outcome). o.answer) (unfit stood g m call));
        leaves = λ m m' call w.
            ap (machine_in plan) (unfit_kept stood g m call (m' ≡ m) w.literal) ∙ sym (ap (λ (o : Outcome). o.machine) (unfit plan f m call));
      }

  agree : Agree
  agree = pick (plan_fits plan) refl
    where
      pick : (b : Bool) → plan_fits plan ≡ b → Agree
      pick true f = agree_fit f
      pick false f = agree_unfit f

pub plays_on : (s : State) (words before row : List ℕ) → row ≡ row_of_plan s.plan → (n : ℕ) (left : Memory) (after : List ℕ)
    → PlayedAll (machine_in (plan_for row)) (Leaves (plan_for row)) words (memory_of s) before n left after
    → PlayedAll machine_of (Does machine_of) words s before n (rebuilt s (counts left.next left.live) left.cells) after
unfolding machine_in machine_of
plays_on s words before row er n left after p =
    let met = memory_of s in
    let plan = plan_for (row_of_plan s.plan) in
    played_along (machine_in plan) (Leaves plan) (λ call m m' w. w.does) machine_of (λ m. rebuilt s (counts m.next m.live) m.cells)
    (agree s.plan).answers (agree s.plan).leaves words met before n left after
    (subst (λ (row : List ℕ). PlayedAll (machine_in (plan_for row)) (Leaves (plan_for row)) words met before n left after) er p)
