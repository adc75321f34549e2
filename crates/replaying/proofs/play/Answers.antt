-- The arrays are lent to the run over the row of the state's plan.
use Rattle.replaying.proofs.Plays.{plays_on}
use Rattle.replaying.proofs.play.Goals as goal

pub returns : goal.returns
returns c = plays_on _ _ _ _ c.row_of-row.ensures _ _ _ c.run_calls-count.ensures
