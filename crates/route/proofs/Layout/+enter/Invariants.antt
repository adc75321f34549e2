-- The number of templates not yet entered falls with each call.
use Rattle.route.proofs.Searches.{left}
use Rattle.route.proofs.Layout.+enter.Given as goal

abbrev pub decreases-enter : goal.decreases-enter
decreases-enter l = left l.seen
