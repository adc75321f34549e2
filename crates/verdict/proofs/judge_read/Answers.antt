-- The first that is not accepted.
use Rattle.verdict.proofs.Ways.{stopped_11, stopped_edges, passed_edges}
use Rattle.verdict.proofs.judge_read.Goals as goal

pub returns-in_err-check_11 : goal.returns-in_err-check_11
returns-in_err-check_11 c = stopped_11 _ _ _ c.check_11.ensures _ c.in_err-check_11.was _ c.from_residual.ensures.1

pub returns-in_err-check_edges : goal.returns-in_err-check_edges
returns-in_err-check_edges c =
    stopped_edges _ _ _ c.check_11.ensures _ c.in_ok-check_11.was _ c.check_edges.ensures _ c.in_err-check_edges.was _ c.from_residual-in_err-check_edges.ensures.1

pub returns : goal.returns
returns c =
    passed_edges _ _ _ c.check_11.ensures _ c.in_ok-check_11.was _ c.check_edges.ensures _ c.in_ok-check_edges.was _ c.check_assertions.ensures
