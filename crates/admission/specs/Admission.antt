-- Refusals 22 to 25 of a step over the templates themselves, as the code meets them.
-- Not to be believed: a law of crate stepping says that they are the machine's.
use Rattle.std.specs.Prelude.{ℕ, ◌+◌, Bool, not, ◌&&◌, List, length, eqb, leb}
use Rattle.lists.specs.Numbers.{every, all}
use Rattle.plan.specs.declared.Template.{Template}
use Rattle.rules.specs.Judge.{EdgeRule, step_rules}
use Rattle.machine.specs.declared.Answer.{Answer}
use Rattle.machine.specs.declared.Answer.TheVariants.{Done}
use Rattle.machine.specs.Machine.{refuse_if, branch_fits}
use Rattle.population.specs.declared.Child.{Child}

-- Identifier i does nothing against the rules that a step asks, where a process at X of that label becomes one at Y.
unfoldable pub innocent : ℕ → Template → Template → ℕ → Bool
innocent label X Y i = all (λ (r : EdgeRule). not (r.offends label X Y i)) step_rules

-- None of M identifiers does: the machine's `may_become` of those templates.
unfoldable pub fitting : ℕ → ℕ → Template → Template → Bool
fitting M label X Y = every M (innocent label X Y)

unfoldable pub all_fitting : ℕ → ℕ → Template → List Child → Bool
all_fitting M label X children = all (λ (child : Child). fitting M label X child.template) children

-- 22 to 25, for those children of a process at X.
unfoldable pub refusal_of : ℕ → ℕ → ℕ → ℕ → Template → ℕ → List Child → Answer
refusal_of M next live label X branch children =
    refuse_if (not (branch_fits X.form branch)) 22
    (refuse_if (eqb (length children) 2 && not (leb (live + 1) 128)) 23
    (refuse_if (not (leb (next + length children) 4294967295)) 24
    (refuse_if (not (all_fitting M label X children)) 25
    Done)))
