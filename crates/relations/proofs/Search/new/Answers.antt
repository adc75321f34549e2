-- `Search::new`: the targets have their ways below x.
use Rattle.relations.proofs.Steps.{seeking_none, seeking_more, seeking_end}
use Rattle.relations.proofs.Search.new.Goals as goal

pub loop-x-init : goal.loop-x-init
loop-x-init c = search seeking_none

pub loop-x-preserved : goal.loop-x-preserved
loop-x-preserved c = search seeking_more

pub returns : goal.returns
returns c = search seeking_end
