-- So far each assertion is accepted.
use native.Mathlib.Omega.{arith}
use Rattle.assertions.proofs.Order.{all_start, all_more, all_stop, all_end}
use Rattle.assertions.proofs.check_assertions.Goals as goal

pub loop-i-init : goal.loop-i-init
loop-i-init c = search all_start

pub returns-in_err-check_assertion : goal.returns-in_err-check_assertion
returns-in_err-check_assertion c =
    all_stop _ _ _ c.loop-i.invariant _ c.assertion.ensures.value _ c.check_assertion.ensures (omega (arith, c.capped-i-end.ensures)) _ c.in_err-check_assertion.was _ c.from_residual.ensures.1

pub loop-i-preserved : goal.loop-i-preserved
loop-i-preserved c =
    all_more _ _ _ c.loop-i.invariant _ c.assertion.ensures.value _ c.check_assertion.ensures c.assertion.ensures.row _ c.in_ok-check_assertion.was

pub returns : goal.returns
returns c = all_end _ _ _ _ c.loop-i.invariant c.capped-i-end.ensures c.loop-i.auto.i-end c.loop-i-test.false
