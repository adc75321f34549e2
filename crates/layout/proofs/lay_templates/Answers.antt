-- `layout::lay_templates`: all is laid out below i.
use Rattle.std.proofs.Common.{rules}
use borrow.Author.Tests.{tests}
use Rattle.plan.specs.Plan.{at}
use Rattle.layout.specs.Layout.{forked}
use Rattle.layout.proofs.Laying.{lay_start, lay_more, lay_end}
use Rattle.layout.proofs.lay_templates.Goals as goal

pub loop-i-init : goal.loop-i-init
loop-i-init c = search lay_start

pub loop-i-preserved : goal.loop-i-preserved
loop-i-preserved c = search lay_more

pub returns : goal.returns
unfolding forked at
returns c =
    lay_end _ _ _ _ _ c.loop-i.invariant c.loop-i.auto.i-end c.loop-i-test.false c.collect.result (c.collect.ensures (forked c.args.plan.now) (λ x b l e. search (rules, tests)))
