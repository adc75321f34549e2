-- A row that stands for a plan that fits means that plan.
use Prim.Native.Nat.{ℕ, ◌<◌}
use mathlib.Core.Path.{◌≡◌, refl, sym, ap, ◌∙◌, subst}
use mathlib.Core.Bool.{Bool, true, false}
use mathlib.Core.List.{List}
use Rattle.plan.specs.Plan.{at}
use Rattle.machine.specs.Machine.{plan_fits}
use Rattle.machine.proofs.Templates.{none_unfit}
use Rattle.planrow.specs.Row.{count_in, identifiers_in, is_plan}
use Rattle.planrow.specs.Lookup.{plan_for, template_at}
use Rattle.planrow.proofs.Lookup.{stands_not, stands_count, stands_identifiers, looked_up}

-- A row that means no plan stands for one that does not fit.
pub unfit_not : (row : List ℕ) → is_plan row ≡ false → plan_fits (plan_for row) ≡ false
unfit_not row e = ap plan_fits (stands_not row e) ∙ none_unfit

module _ (row : List ℕ) (f : plan_fits (plan_for row) ≡ true) where
  pub fit_means : is_plan row ≡ true
  fit_means = pick (is_plan row) refl
    where
      pick : (b : Bool) → is_plan row ≡ b → b ≡ true
      pick true q = refl
      pick false q = sym (sym f ∙ unfit_not row q)

  pub fit_count : (plan_for row).count ≡ count_in row
  fit_count = stands_count row fit_means

  pub fit_identifiers : (plan_for row).identifiers ≡ identifiers_in row
  fit_identifiers = stands_identifiers row fit_means

  -- A template below N is found in its words.
  pub fit_lookup : (X : ℕ) → X < (plan_for row).count → template_at row X ≡ at (plan_for row) X
  fit_lookup X h = looked_up row fit_means X (subst (λ (n : ℕ). X < n) fit_count h)
