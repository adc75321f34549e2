-- Not accepted, what start gave is handed on. Accepted, the calls are played on the state that start gave; the promise is
-- the law of crate promise.
use Rattle.replaying.proofs.Replays.{replays_not, replays_so}
use Rattle.std.proofs.Common.{ap}
use mathlib.Core.Bool.{not}
use Rattle.replaying.proofs.replay.Goals as goal

pub returns-then-not-is_accepted : goal.returns-then-not-is_accepted
returns-then-not-is_accepted c = replays_not _ _ _ _ _ _ c.start-verdict.ensures _ c.is_accepted.ensures (ap not c.if-not-is_accepted.true)

pub returns : goal.returns
returns c = replays_so _ _ _ _ _ _ c.start-verdict.ensures _ c.is_accepted.ensures (ap not c.if-not-is_accepted.false)
    _ _ _ c.play-count.ensures
