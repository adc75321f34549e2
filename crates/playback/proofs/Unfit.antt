-- Of a plan that does not fit every call is 20, so that a list of calls leaves all as it was.
use Prim.Native.Nat.{ℕ}
use mathlib.Core.Path.{◌≡◌, refl, ap, ◌∙◌, subst}
use mathlib.Core.Bool.{false}
use mathlib.Core.List.{List, [], ◌∷◌}
use Rattle.plan.specs.declared.Plan.{Plan}
use Rattle.machine.specs.declared.Answer.TheVariants.{Refused}
use Rattle.machine.specs.Machine.{Outcome, Call, box_limits, plan_fits, run}
use Rattle.machine.specs.State.{unless_done}
use Rattle.machine.proofs.Outcomes.{outcome}
use Rattle.population.specs.Lent.{counts}
use Rattle.population.proofs.Lent.{run_unfit}
use Rattle.promise.specs.Replay.{machine_after}
use Rattle.playback.specs.Playback.{Through, begun, onward}
use Rattle.playback.specs.Running.{Memory, machine_in, Leaves}

module _ (plan : Plan) (f : plan_fits plan ≡ false) where
  pub unfit : (m : Memory) (call : Call) → run box_limits (machine_in plan m) call ≡ outcome (Refused 20) (machine_in plan m)
  unfolding machine_in
  unfit m call = run_unfit plan (counts m.next m.live) m.cells call f

  pub unfit_kept : (m : Memory) (call : Call) (P : Type 0) → unless_done (run box_limits (machine_in plan m) call).answer P → P
  unfolding unless_done
  unfit_kept m call P u = subst (λ (o : Outcome). unless_done o.answer P) (unfit m call) u

  pub unfit_after : (m : Memory) (calls : List Call) → machine_after box_limits (machine_in plan m) calls ≡ machine_in plan m
  unfolding machine_after
  unfit_after m [] = refl
  unfit_after m (call ∷ rest) = ap (λ (o : Outcome). machine_after box_limits o.machine rest) (unfit m call) ∙ unfit_after m rest

  pub unfit_through : (call : ℕ → Call) (met : Memory) {n : ℕ} {left : Memory} → Through (Leaves plan) call met n left → left ≡ met
  unfit_through call met begun = refl
  unfit_through call met (onward {n = n} {met = a} {left = b} t w) = unfit_kept a (call n) (b ≡ a) w.does.literal ∙ unfit_through call met t
