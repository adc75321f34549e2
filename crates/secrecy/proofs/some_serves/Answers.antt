-- Any of those below the limit and the width of a mask; none past it serves.
use Rattle.std.proofs.Common.{◌∙◌, rules}
use native.Mathlib.Nat.{sub-zero}
use borrow.Author.Tests.{tests}
use Rattle.std.proofs.lemmas.Iterator.{YieldsList-from_range}
use Rattle.std.proofs.lemmas.Iterator.Search.{any_from_yields_List}
use Rattle.secrecy.specs.Lent.{joined, serves_by}
use Rattle.relations.proofs.Steps.{any_from_0}
use Rattle.secrecy.proofs.Serving.{none_serves}
use Rattle.secrecy.proofs.some_serves.Goals as goal

pub returns : goal.returns
returns c =
    let test = serves_by c.args.kept c.args.risked (joined c.args.layout.now c.args.a) in
    any_from_yields_List test c.any.new.self _ c.any.result c.any.ensures.ran (YieldsList-from_range 0 _ _ (cc) (sub-zero _)) (λ x b q k. search (rules, tests))
    ∙ any_from_0 _ test
    ∙ none_serves _ _ _ c.ranges.kept.fits _ _ c.min.ensures
