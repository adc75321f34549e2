-- What a call did over the row of a plan, it did over the plan: the row lacks only what stands past N.
use Prim.Native.Nat.{ℕ}
use mathlib.Core.Path.{◌≡◌, refl, sym, ap, ◌∙◌, subst}
use mathlib.Core.Bool.{Bool, true, false}
use mathlib.Core.List.{List}
use Rattle.plan.specs.declared.Plan.{Plan}
use Rattle.planrow.specs.Row.{row_of_plan}
use Rattle.planrow.specs.Lookup.{plan_for}
use Rattle.planrow.proofs.Stands.{alike, fit_row, unfit}
use Rattle.machine.specs.declared.Answer.{Answer}
use Rattle.machine.specs.declared.Answer.TheVariants.{Refused}
use Rattle.machine.specs.Machine.{Machine, Outcome, Call, box_limits, plan_fits, run}
use Rattle.machine.specs.State.{Cells, processes_of, machine_from, unless_done}
use Rattle.machine.proofs.Alike.{Alike, outcome_on, run_alike}
use Rattle.population.specs.declared.Counts.{Counts}
use Rattle.population.specs.Lent.{machine_at, outcome_from, Same, Did}
use Rattle.population.proofs.Lent.{run_unfit}

module _ (plan : Plan) (n : Counts) (c : Cells) (call : Call) (a : Answer) (n' : Counts) (d : Cells) (w : Did (plan_for (row_of_plan plan)) n c call a n' d) where
  abbrev stood : Plan
  stood = plan_for (row_of_plan plan)

  by_fit : plan_fits plan ≡ true → Did plan n c call a n' d
  unfolding machine_from
  by_fit f = record {
    means =
        sym (ap (λ (M : ℕ). run box_limits (over M) call) (sym M-is)
        ∙ run_alike box_limits stood plan same (machine_at stood n c) call
        ∙ ap (outcome_on plan) (sym w.means)
        ∙ ap (λ (M : ℕ). record { answer = a; machine = record { plan = plan; next = n'.next; live = processes_of M n'.live d } }) M-is);
    same = w.same;
    others = w.others;
  }
    where
      same : Alike stood plan
      same = alike plan (fit_row plan f)

      M-is : stood.identifiers ≡ plan.identifiers
      M-is = same.identifiers_same

      over : ℕ → Machine
      over M = record { plan = plan; next = n.next; live = processes_of M n.live c }

  by_unfit : plan_fits plan ≡ false → Did plan n c call a n' d
  unfolding unless_done
  by_unfit f = record {
    means = (λ i. outcome_from plan (refused i) (kept.same_counts i) (kept.same_cells i)) ∙ sym (run_unfit plan n c call f);
    same = w.same;
    others = w.others;
  }
    where
      refused : a ≡ Refused 20
      refused = ap (λ (o : Outcome). o.answer) (w.means ∙ run_unfit stood n c call (unfit plan f))

      kept : Same n c n' d
      kept = subst (λ (a : Answer). unless_done a (Same n c n' d)) refused w.same

  by : Did plan n c call a n' d
  by = pick (plan_fits plan) refl
    where
      pick : (b : Bool) → plan_fits plan ≡ b → Did plan n c call a n' d
      pick true f = by_fit f
      pick false f = by_unfit f

-- As the code meets it: `row_of` gave the row.
pub by_row : (plan : Plan) (row : List ℕ) → row ≡ row_of_plan plan → (n : Counts) (c : Cells) (call : Call) (a : Answer) (n' : Counts) (d : Cells)
    → Did (plan_for row) n c call a n' d → Did plan n c call a n' d
by_row plan row e n c call a n' d w =
    by plan n c call a n' d (subst (λ (row : List ℕ). Did (plan_for row) n c call a n' d) e w)
