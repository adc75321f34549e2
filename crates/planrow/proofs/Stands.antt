-- The row of a plan stands for a plan that is alike: the row lacks only what stands past N.
use Prim.Native.Nat.{ℕ, ◌≤◌, ◌<◌}
use mathlib.Core.Path.{◌≡◌, refl, sym, ◌∙◌, subst}
use mathlib.Core.Bool.{Bool, true, false}
use native.Mathlib.Omega.{arith}
use Rattle.plan.specs.declared.Plan.{Plan}
use Rattle.plan.specs.Plan.{at, Successor}
use Rattle.plan.proofs.Fitting.{successor_fits}
use Rattle.machine.specs.Machine.{plan_fits}
use Rattle.machine.proofs.Templates.{fitting_count, template_fits_lem}
use Rattle.machine.proofs.Alike.{Alike, fits_alike}
use Rattle.planrow.specs.Row.{is_plan, row_of_plan}
use Rattle.planrow.specs.Lookup.{plan_for}
use Rattle.planrow.proofs.Reading.{plan_count}
use Rattle.planrow.proofs.Places.{row_identifiers, row_counted, row_count}
use Rattle.planrow.proofs.RoundTrip.{row-template, row-plan}
use Rattle.planrow.proofs.Lookup.{stands_count, stands_identifiers, stands_at}
use Rattle.planrow.proofs.Fits.{unfit_not}

module _ (plan : Plan) where
  -- The row of a plan that fits means one.
  pub fit_row : plan_fits plan ≡ true → is_plan (row_of_plan plan) ≡ true
  fit_row e = row-plan plan (fitting_count plan e) near
    where
      near : (X Y : ℕ) → X < plan.count → Successor plan X Y → Y < 64
      near X Y h s =
          let l = successor_fits plan.count plan.identifiers (at plan X) (template_fits_lem plan e X h) Y s in
          let f = fitting_count plan e in
          omega arith

  pub alike : is_plan (row_of_plan plan) ≡ true → Alike (plan_for (row_of_plan plan)) plan
  alike e = record {
    count_same = counts;
    identifiers_same = stands_identifiers (row_of_plan plan) e ∙ row_identifiers plan;
    templates_same = λ X h.
        let l : X < plan.count = subst (λ (n : ℕ). X < n) counts h in
        stands_at (row_of_plan plan) e X (subst (λ (n : ℕ). X < n) (sym (row_count plan few)) l) ∙ row-template plan few X l;
  }
    where
      few : plan.count ≤ 64
      few = omega (arith, row_counted plan, plan_count (row_of_plan plan) e)

      counts : (plan_for (row_of_plan plan)).count ≡ plan.count
      counts = stands_count (row_of_plan plan) e ∙ row_count plan few

  -- Where the plan does not fit, neither does what its row stands for.
  pub unfit : plan_fits plan ≡ false → plan_fits (plan_for (row_of_plan plan)) ≡ false
  unfit f = pick (is_plan (row_of_plan plan)) refl
    where
      pick : (b : Bool) → is_plan (row_of_plan plan) ≡ b → plan_fits (plan_for (row_of_plan plan)) ≡ false
      pick true e = fits_alike (plan_for (row_of_plan plan)) plan (alike e) ∙ f
      pick false e = unfit_not (row_of_plan plan) e
