-- The loop has gathered the test of the numbers that it passed.
use borrow.Author.Rules.{rules}
use Rattle.lists.proofs.Every.{every_start, every_told, every_done}
use Rattle.ranges.proofs.each_passes.Goals as goal

pub loop-x-init : goal.loop-x-init
loop-x-init g c p agrees = every_start _

pub loop-x-preserved : goal.loop-x-preserved
loop-x-preserved g c p agrees = every_told _ _ _ _ (c.loop-x.invariant p agrees) (agrees _ _ (search rules))

pub returns : goal.returns
returns g c p agrees = every_done _ _ c.loop-x.x-index _ c.loop-x.auto.x-index-end c.loop-x-test.false (c.loop-x.invariant p agrees)
