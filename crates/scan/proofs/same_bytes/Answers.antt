-- Lists of two lengths differ; the library compares the others pair by pair, from the end on.
use Rattle.std.proofs.Common.{◌≡◌, ◌∙◌, ℕ, nat_eq, reverse, rules, sym}
use borrow.Author.Tests.{tests, ne_eqb}
use Rattle.std.specs.List.{list_all, zip}
use Rattle.std.specs.Cmp.Lexicographic.{unequal}
use Rattle.std.proofs.lemmas.Iterator.{YieldsList-from_zip}
use Rattle.std.proofs.lemmas.Iterator.Adapters.{YieldsList-from_rev_slice}
use Rattle.std.proofs.lemmas.Iterator.Search.{all_from_yields_List}
use Rattle.scan.proofs.Steps.{same_pointwise, same_zipped}
use Rattle.scan.proofs.same_bytes.Goals as goal

pub returns-else-s-t : goal.returns-else-s-t
returns-else-s-t c = ne_eqb _ _ c.if-s-t.false ∙ sym (unequal nat_eq c.args.s.now c.args.t.now c.if-s-t.false) ∙ same_pointwise c.args.s.now c.args.t.now

pub returns-then-s-t : goal.returns-then-s-t
returns-then-s-t c =
    let e : c.all.result ≡ list_all (λ (p : ℕ × ℕ). nat_eq p.0 p.1) (zip (reverse c.args.s.now) (reverse c.args.t.now))
    = all_from_yields_List (λ (p : ℕ × ℕ). nat_eq p.0 p.1) c.all.new.self _ c.all.result c.all.ensures.ran
    (YieldsList-from_zip (YieldsList-from_rev_slice c.args.s.now (cc)) (YieldsList-from_rev_slice c.args.t.now (cc)))
    (λ x b q k. search (rules, tests)) in
    e ∙ same_zipped c.args.s.now c.args.t.now c.if-s-t.true
