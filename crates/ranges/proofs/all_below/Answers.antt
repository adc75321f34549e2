use borrow.Author.Rules.{rules}
use lib.Dec.{ltb}
use Rattle.ranges.proofs.all_below.Goals as goal

pub returns : goal.returns
returns c = c.each_passes.ensures (λ x. ltb x c.args.bound) (λ x b e. search rules)
