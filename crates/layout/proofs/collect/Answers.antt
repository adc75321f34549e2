-- `layout::collect`: the loop has collected the templates below x.
use Rattle.layout.proofs.Collecting.{collect_none, collect_more}
use Rattle.layout.proofs.collect.Goals as goal

pub loop-x-init : goal.loop-x-init
loop-x-init g c p told = collect_none p

pub loop-x-preserved : goal.loop-x-preserved
loop-x-preserved g c p told =
    collect_more p c.loop-x.x c.loop-x.found c.include-found.result c.test.result (c.loop-x.invariant p told)
    (told c.loop-x.x c.test.result c.loop-x-test.true c.test.ensures) c.include-found.ensures
