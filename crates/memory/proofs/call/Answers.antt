-- What the call on the lent row and arrays did, its place stored.
use Rattle.memory.proofs.Answered.{answered}
use Rattle.memory.proofs.call.Goals as goal

pub returns : goal.returns
returns c = let did = rw (c.from-call.ensures, c.from-counts.ensures) at c.run_call-answer.ensures in
    rw c.into.ensures (answered _ _ _ _ _ _ _ _ c.from.ensures did)
