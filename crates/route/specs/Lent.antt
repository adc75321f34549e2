-- The successors of the templates as a search is lent them: for each template its first and its second. One that is lacking is 64,
-- where no search enters.
-- Not to be believed: crate layout lays a plan out so, and a law there says that searches over it are those over the plan.
use Rattle.std.specs.Prelude.{ℕ, false, List, get_or}
use Rattle.lists.specs.Numbers.{tabulate}
use Rattle.plan.specs.declared.Form.TheVariants.{Both}
use Rattle.plan.specs.declared.Template.{Template}
use Rattle.plan.specs.declared.Plan.{Plan}
use Rattle.route.specs.declared.Layout.{Layout}

-- What is lent as a plan of its own: each template is a `both`.
abbrev pub laid_template : ℕ → ℕ → Template
laid_template Y Z = record { form = Both Y Z; lab = 0; pos = 0; neg = 0; creates = 0; risk = false }

unfoldable pub laid_out : List ℕ → List ℕ → Plan
laid_out first second =
    record { count = 64; identifiers = 0; templates = tabulate 64 (λ X. laid_template (get_or first X 0) (get_or second X 0)) }

abbrev pub laid : Layout → Plan
laid l = laid_out l.first l.second
