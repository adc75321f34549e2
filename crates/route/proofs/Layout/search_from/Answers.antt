-- `Layout::search_from` is the search that has seen nothing yet.
use Rattle.route.proofs.Steps.{search_laid}
use Rattle.route.proofs.Layout.search_from.Goals as goal

pub returns : goal.returns
returns c = search search_laid
