-- The loop has gathered what the identifiers that it passed say.
use native.Mathlib.Omega.{arith}
use Rattle.lists.proofs.Every.{every_start, every_told}
use Rattle.delivery.proofs.Passed.{clear_all}
use Rattle.delivery.proofs.is_passed.Goals as goal

pub loop-i-init : goal.loop-i-init
loop-i-init c = every_start _

pub loop-i-preserved : goal.loop-i-preserved
loop-i-preserved c = every_told _ _ _ _ c.loop-i.invariant c.is_agreed-agreed.ensures

pub returns : goal.returns
returns c =
    let l = c.loop-i in
    let m = c.min-i-end.ensures in
    clear_all _ _ _ _ c.ranges.label (c.if-held-n.false) l.i _ l.invariant (omega arith)
