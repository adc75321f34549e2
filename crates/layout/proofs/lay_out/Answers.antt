-- `layout::lay_out`: of the templates that are a `both`, those that the search from the root reaches.
use Rattle.layout.proofs.Laying.{lay_forks}
use Rattle.layout.proofs.lay_out.Goals as goal

pub returns : goal.returns
returns c = search lay_forks
