-- Within the lengths of a name, the bytes decide.
use Rattle.std.proofs.Common.{◌≡◌, ◌<◌, ◌≤◌, ◌∙◌, length, rules, arith}
use Rattle.std.proofs.lemmas.Bool.Decides.{nat_tests}
use borrow.Author.Tests.{tests, lt-ltb, le-leb}
use Rattle.std.proofs.lemmas.Iterator.{YieldsList-from_slice}
use Rattle.std.proofs.lemmas.Iterator.Search.{all_from_yields_List}
use Rattle.lists.specs.Numbers.{all}
use Rattle.field.specs.Fields.{name_byte}
use Rattle.field.proofs.Names.{all_listed}
use Rattle.field.proofs.is_name.Goals as goal

pub returns-then-s-le16 : goal.returns-then-s-le16
returns-then-s-le16 c =
    let e : c.all.result ≡ all name_byte c.args.s.now
    = all_from_yields_List name_byte _ _ c.all.result c.all.ensures.ran (YieldsList-from_slice c.args.s.now (cc)) (λ x b q k. search (rules, tests))
    ∙ all_listed name_byte c.args.s.now in
    let some : 0 < length c.args.s.now = grind (arith, nat_tests) in
    let few : length c.args.s.now ≤ 16 = grind (arith, nat_tests) in
    simp (lt-ltb 0 (length c.args.s.now) some, le-leb (length c.args.s.now) 16 few) e
