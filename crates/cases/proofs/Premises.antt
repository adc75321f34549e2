-- Every row on the premises of the promise holds, by computation.
use mathlib.Core.{Path.{◌≡◌, refl}, List.{map}}
use Rattle.cases.specs.Histories.{Row, reply}
use Rattle.cases.specs.Premises.{visit_plan, visit_policy, premise_rows}
use Rattle.cases.proofs.Computing.{computing}

pub premises_needed : map (λ (r : Row). reply r.asked) premise_rows ≡ map (λ (r : Row). r.told) premise_rows
unfolding computing visit_plan visit_policy premise_rows
premises_needed = refl
