-- The first of a range that passes is the lowest.
use Rattle.std.proofs.Common.{rules}
use borrow.Author.Tests.{tests}
use Rattle.std.proofs.lemmas.Iterator.{first_from_Range}
use Rattle.creation.proofs.Creators.{from_first}
use Rattle.creation.proofs.creator_from.Goals as goal

pub returns : goal.returns
returns c =
    from_first c.args.plan.now c.args.t c.args.from c.capped.result c.capped.ensures c.find.result
    (first_from_Range _ c.find.new.self _ c.find.result _ _ c.find.ensures.ran (λ x q k. search (rules, tests)) (λ x q k. search (rules, tests)))
