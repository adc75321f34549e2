-- A row as the monitor's core works with it: every row stands for some plan, and a template is looked up in its words.
-- Not to be believed: the contracts of the exported functions do not name it. Laws beside this crate tie it to Row.
use Rattle.std.specs.Prelude.{ℕ, cond, ◌&&◌, List, ltb, get_or, take, drop, Option, Some, None}
use Rattle.plan.specs.declared.Template.{Template}
use Rattle.plan.specs.declared.Plan.{Plan}
use Rattle.plan.specs.Plan.{blank}
use Rattle.text.specs.Reading.{no_plan}
use Rattle.planrow.specs.Row.{width, begins, word_at, template_of, is_template, template_in, is_plan, plan_in}

-- The words of template X, as they are lent, and word k of them.
unfoldable pub part_at : List ℕ → ℕ → List ℕ
part_at row X = take width (drop (begins X) row)

abbrev pub word : List ℕ → ℕ → ℕ
word words k = get_or words k 0

-- The template that the words stand for, if they stand for one.
abbrev pub template_meant : (ℕ → ℕ) → Option Template
template_meant word = cond (is_template word) (Some (template_of word)) None

-- A row that means no plan stands for the one without templates, for which the machine answers every call with 20.
unfoldable pub plan_for : List ℕ → Plan
plan_for row = cond (is_plan row) (plan_in row) no_plan

-- The template whose words stand at X, and the blank one where they are none.
unfoldable pub template_at : List ℕ → ℕ → Template
template_at row X = cond (ltb X 64 && is_template (word_at row X)) (template_in row X) blank
