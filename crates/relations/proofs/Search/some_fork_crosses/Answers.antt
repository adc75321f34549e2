-- `Search::some_fork_crosses`: the fold gathers the test over all templates.
use Rattle.std.proofs.Common.{◌∙◌, ◌||◌, false, refl, rules}
use borrow.Author.Tests.{tests}
use Rattle.std.proofs.lemmas.Iterator.{YieldsList-from_range}
use Rattle.std.proofs.lemmas.Iterator.Consumers.{fold_from_yields_List}
use Rattle.route.specs.Search.{fork_crosses}
use Rattle.route.specs.Lent.{laid}
use Rattle.relations.proofs.Steps.{any_gathered}
use Rattle.relations.proofs.Search.some_fork_crosses.Goals as goal

pub returns : goal.returns
returns c =
    fold_from_yields_List _ (λ b x. b || fork_crosses (laid c.args.self.now.layout.now) c.args.self.now.barred c.args.self.now.to c.args.forks x) false c.fold.result c.fold.ensures.ran
    (YieldsList-from_range 0 64 64 (cc) refl) (λ a x b q k. search (rules, tests))
    ∙ any_gathered 64 _
