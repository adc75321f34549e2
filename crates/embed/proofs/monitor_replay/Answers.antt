-- What replay hands back, its verdict in words.
use Rattle.embed.proofs.Replayed.{replayed_all}
use Rattle.embed.proofs.monitor_replay.Goals as goal

pub returns : goal.returns
returns c = search replayed_all
