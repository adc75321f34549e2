-- The step of the process at a place, as it is handed on to the search for its serial.
-- Not to be believed: the contract of `attempt` is stated with the machine alone.
use Rattle.std.specs.Prelude.{ℕ, ◌≡◌, true, get_or}
use Rattle.std.proofs.Math.Option.{some}
use Rattle.plan.specs.declared.Plan.{Plan}
use Rattle.machine.specs.declared.Answer.{Answer}
use Rattle.machine.specs.Machine.{box_limits, well_formed, step_by}
use Rattle.machine.specs.State.{Cells, placed, unless_done}
use Rattle.population.specs.declared.Counts.{Counts}
use Rattle.population.specs.Lent.{machine_at, outcome_from, Same}

-- The step of the process at place k, below refusal 20.
pub record SteppedAt (plan : Plan) (n : Counts) (c : Cells) (k branch : ℕ) (answer : Answer) (n' : Counts) (d : Cells) : Type 0 where
  pub means : well_formed box_limits (machine_at plan n c) ≡ true
      → outcome_from plan answer n' d ≡ step_by box_limits (machine_at plan n c) (get_or c.serials k 0) branch (some (placed plan.identifiers c k))
  pub same : unless_done answer (Same n c n' d)
