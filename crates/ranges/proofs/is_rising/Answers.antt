-- The numbers beside those that come after them.
use Rattle.std.proofs.Common.{rules}
use Rattle.std.proofs.lemmas.Slice.Zip.{zip_turn, zip_end}
use Rattle.lists.proofs.Every.{every_start}
use Rattle.ranges.proofs.Ranges.{none_rise, rising_turn, rising_end}
use Rattle.ranges.proofs.is_rising.Goals as goal

pub returns-in_default : goal.returns-in_default
returns-in_default c = none_rise _ c.in_default.ensures.cases

pub loop-x-init : goal.loop-x-init
loop-x-init c = every_start _

pub loop-x-preserved : goal.loop-x-preserved
loop-x-preserved c =
    let l = c.loop-x in
    let t = zip_turn c.args.xs.now c.in-Some.after.now _ _ _ c.next.new.self _ (search rules) (search rules) l.yielded_by _ c.in-Some-2.is c.next.ensures.steps in
    rising_turn _ _ _ c.in-Some.ensures.cases.0 l.yielded _ _ _ _ l.invariant (t.2 0) (t.3 0)

pub returns : goal.returns
returns c =
    let l = c.loop-x in
    let n = zip_end c.args.xs.now c.in-Some.after.now _ _ _ c.next.new.self _ (search rules) (search rules) l.yielded_by c.in-None.is c.next.ensures.steps in
    rising_end _ _ _ c.in-Some.ensures.cases.0 _ _ l.invariant n
