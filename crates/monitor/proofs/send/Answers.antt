-- No send is done.
use Rattle.monitor.proofs.Kept.{sent_kept}
use Rattle.monitor.proofs.send.Goals as goal

pub returns : goal.returns
returns c = (c.call.ensures.0, sent_kept _ _ _ _ c.call.ensures.0 c.call.ensures.1)
