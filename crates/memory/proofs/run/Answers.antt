-- What the calls on the lent row and arrays left, its place stored.
use Rattle.memory.proofs.Answered.{runs_row}
use Rattle.memory.proofs.run.Goals as goal

pub returns : goal.returns
returns c = rw c.into.ensures (runs_row _ _ _ _ _ _ _ (rw c.from-counts.ensures at c.run_calls-count.ensures))
