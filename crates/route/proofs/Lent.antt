-- What stands at a place of the successors that are lent.
use Prim.Native.Nat.{ℕ, ◌≤◌, ◌<◌}
use mathlib.Core.Path.{◌≡◌, ap}
use mathlib.Core.List.{List}
use lib.ListN.{get_or}
use Rattle.lists.proofs.Tabulate.{get_or-tabulate, get_or-tabulate_past}
use Rattle.plan.specs.declared.Form.TheVariants.{End, Both}
use Rattle.plan.specs.declared.Template.{Template}
use Rattle.plan.specs.Plan.{blank, at}
use Rattle.route.specs.Lent.{laid_template, laid_out}

pub laid_form : (first second : List ℕ) (X : ℕ) → X < 64 → (at (laid_out first second) X).form ≡ Both (get_or first X 0) (get_or second X 0)
unfolding at laid_out
laid_form first second X l =
    ap (λ (u : Template). u.form) (get_or-tabulate 64 (λ X. laid_template (get_or first X 0) (get_or second X 0)) X blank l)

pub laid_past : (first second : List ℕ) (X : ℕ) → 64 ≤ X → (at (laid_out first second) X).form ≡ End
unfolding at laid_out
laid_past first second X h =
    ap (λ (u : Template). u.form) (get_or-tabulate_past 64 (λ X. laid_template (get_or first X 0) (get_or second X 0)) X blank h)
