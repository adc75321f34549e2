-- What a call on lent arrays promises: the answer and what the arrays mean at its end are the machine's outcome; unless it
-- is done, the counts and the arrays are literally as they were, and unless it is a step, all but the labels are.
-- Not to be believed: the contracts of the operations by value do not name it.
use Rattle.std.specs.Prelude.{ℕ, ◌≡◌, true, List, [], ◌∷◌, get_or}
use Rattle.plan.specs.declared.Plan.{Plan}
use Rattle.machine.specs.declared.Answer.{Answer}
use Rattle.machine.specs.Machine.{Outcome, Machine, Call, step, send, raise, lower, box_limits, well_formed, answer_to, run}
use Rattle.machine.specs.State.{Cells, machine_from, unless_done}
use Rattle.population.specs.declared.Counts.{Counts}

abbrev pub counts : ℕ → ℕ → Counts
counts next live = record { next = next; live = live }

-- The two as one place.
abbrev pub counted : List ℕ → Counts
counted place = counts (get_or place 0 0) (get_or place 1 0)

abbrev pub as_place : Counts → List ℕ
as_place n = n.next ∷ n.live ∷ []

-- The machine that a plan, the counts and the arrays stand for,
abbrev pub machine_at : Plan → Counts → Cells → Machine
machine_at plan n c = machine_from plan n.next n.live c

-- and an answer beside it.
abbrev pub outcome_from : Plan → Answer → Counts → Cells → Outcome
outcome_from plan answer n c = record { answer = answer; machine = machine_at plan n c }

-- Nothing was touched.
pub record Same (n : Counts) (c : Cells) (n' : Counts) (c' : Cells) : Type 0 where
  pub same_counts : n' ≡ n
  pub same_cells : c' ≡ c

-- Nothing but labels was touched.
pub record LabelsAlone (n : Counts) (c : Cells) (n' : Counts) (c' : Cells) : Type 0 where
  pub counts_stay : n' ≡ n
  pub serials_stay : c'.serials ≡ c.serials
  pub templates_stay : c'.templates ≡ c.templates
  pub tags_stay : c'.tags ≡ c.tags

-- P holds unless the call is a step: only a step changes more than a label.
unfoldable pub unless_step : Call → Type 0 → Type 0
unless_step (step s branch) P = Prim.Unit
unless_step (send from to) P = P
unless_step (raise s i) P = P
unless_step (lower s i) P = P

-- A call that met the counts n and the arrays c answered so and left n' and c', as the machine says.
pub record Did (plan : Plan) (n : Counts) (c : Cells) (call : Call) (answer : Answer) (n' : Counts) (c' : Cells) : Type 0 where
  pub means : outcome_from plan answer n' c' ≡ run box_limits (machine_at plan n c) call
  pub same : unless_done answer (Same n c n' c')
  pub others : unless_step call (LabelsAlone n c n' c')

-- The same below refusal 20: of a state that is not bad.
pub record Tried (plan : Plan) (n : Counts) (c : Cells) (call : Call) (answer : Answer) (n' : Counts) (c' : Cells) : Type 0 where
  pub means : well_formed box_limits (machine_at plan n c) ≡ true
      → outcome_from plan answer n' c' ≡ answer_to box_limits (machine_at plan n c) call
  pub same : unless_done answer (Same n c n' c')
  pub others : unless_step call (LabelsAlone n c n' c')
