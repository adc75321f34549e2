use borrow.Author.Rules.{rules}
use lib.Dec.{leb}
use Rattle.ranges.proofs.none_above.Goals as goal

pub returns : goal.returns
returns c = c.each_passes.ensures (λ x. leb x c.args.top) (λ x b e. search rules)
