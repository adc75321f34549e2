-- After so many assertions what is left to fill leads to the same end.
use native.Mathlib.Omega.{arith}
use Rattle.policies.proofs.Assertions.{listing_first, listing_next, listing_stop, listing_last}
use Rattle.policies.proofs.read_assertions.Goals as goal

pub loop-a-init : goal.loop-a-init
loop-a-init c = search listing_first

pub loop-a-preserved : goal.loop-a-preserved
loop-a-preserved c =
    listing_next _ _ _ _ _ _ c.loop-a.invariant _ _ c.read_assertion.ensures (omega arith) _ c.in_ok-a.was

pub returns-in_err-a : goal.returns-in_err-a
returns-in_err-a c =
    listing_stop _ _ _ _ _ _ c.loop-a.invariant _ _ c.read_assertion.ensures (omega arith) _ c.in_err-a.was _ _ c.from_residual.ensures.1

pub returns : goal.returns
returns c = listing_last _ _ _ _ _ _ c.loop-a.invariant (omega arith) _ c.default-assertions.ensures
