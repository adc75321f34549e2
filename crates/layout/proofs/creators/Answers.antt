-- `layout::creators`: the test asks the mask that stands in the array.
use Rattle.std.proofs.Common.{rules}
use borrow.Author.Tests.{tests}
use Rattle.layout.specs.Layout.{made_by}
use Rattle.layout.proofs.creators.Goals as goal

pub returns : goal.returns
unfolding made_by
returns c = c.collect.ensures (made_by c.args.layout.now.creates c.args.t) (λ x b l e. search (rules, tests))
