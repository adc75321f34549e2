-- The call on the lent memory, as it is.
use Rattle.embed.proofs.monitor_call.Goals as goal

pub returns : goal.returns
returns c = c.call.ensures
