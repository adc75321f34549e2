-- The library's search, told in the definition's words.
use Rattle.std.proofs.Common.{◌≡◌, ◌∙◌, ap, nat_eq, length, position, unwrap_or, rules}
use borrow.Author.Tests.{tests}
use Rattle.std.proofs.lemmas.Iterator.{YieldsList-from_slice}
use Rattle.std.proofs.lemmas.Iterator.Search.{position_from_yields_List}
use Rattle.scan.proofs.Steps.{before_position}
use Rattle.scan.proofs.find.Goals as goal

pub returns-clause-place : goal.returns-clause-place
returns-clause-place c =
    let found : c.position.result ≡ position (λ x. nat_eq x c.args.b) c.args.s.now
    = position_from_yields_List _ _ _ c.position.result c.position.ensures.ran (YieldsList-from_slice c.args.s.now (cc)) (λ x b q k. search (rules, tests)) in
    let told = ap (λ r. unwrap_or r (length c.args.s.now)) found ∙ before_position c.args.b c.args.s.now in
    search told
