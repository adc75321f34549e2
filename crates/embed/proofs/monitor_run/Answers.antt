-- The run on the lent memory.
use Rattle.embed.proofs.monitor_run.Goals as goal

pub returns : goal.returns
returns c = c.run.ensures
