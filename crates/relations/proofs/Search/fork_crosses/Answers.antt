use Rattle.std.proofs.Common.{rules}
use Rattle.relations.proofs.Steps.{fork_reached}
use Rattle.relations.proofs.Search.fork_crosses.Goals as goal

pub returns-then-crosses : goal.returns-then-crosses
returns-then-crosses c = search (rules, fork_reached)

pub returns-else-crosses : goal.returns-else-crosses
returns-else-crosses c = search (rules, fork_reached)
