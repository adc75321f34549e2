-- The loop leaves at the first template whose edges are not accepted; so far all were.
use native.Mathlib.Omega.{arith}
use Rattle.edges.proofs.Forms.{edges_start, edges_more, edges_hit, edges_end}
use Rattle.edges.proofs.check_edges.Goals as goal

pub loop-x-init : goal.loop-x-init
loop-x-init c = search edges_start

pub returns-in_err-check_edges_from : goal.returns-in_err-check_edges_from
returns-in_err-check_edges_from c =
    edges_hit _ _ c.loop-x.invariant _ c.check_edges_from.ensures (omega (arith, c.capped-x-end.ensures)) _ c.in_err-check_edges_from.was _ c.from_residual.ensures.1

pub loop-x-preserved : goal.loop-x-preserved
loop-x-preserved c = search (edges_more, c.in_ok-check_edges_from.was)

pub returns : goal.returns
returns c = search edges_end
