-- The library's test asks each child.
use Rattle.std.proofs.Common.{◌∙◌, rules}
use borrow.Author.Tests.{tests}
use Rattle.std.proofs.lemmas.Iterator.{YieldsList-from_slice}
use Rattle.std.proofs.lemmas.Iterator.Search.{all_from_yields_List}
use Rattle.population.specs.declared.Child.{Child}
use Rattle.admission.specs.Admission.{fitting}
use Rattle.admission.proofs.Refusals.{fits_all}
use Rattle.admission.proofs.are_fitting.Goals as goal

pub returns : goal.returns
returns c =
    all_from_yields_List (λ (child : Child). fitting c.args.m c.args.label c.args.x child.template) _ _ c.all.result c.all.ensures.ran
    (YieldsList-from_slice c.args.children.now (cc)) (λ x b q k. search (rules, tests))
    ∙ fits_all c.args.m c.args.label c.args.x c.args.children.now
