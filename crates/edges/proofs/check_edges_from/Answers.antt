-- By the number of the successors.
use mathlib.Core.Path.{sym}
use Rattle.rules.specs.Judge.{first_in}
use Rattle.edges.proofs.Forms.{of_one, of_first, of_second}
use Rattle.edges.proofs.check_edges_from.Goals as goal

pub returns-in-None : goal.returns-in-None
unfolding first_in
returns-in-None c = rw (sym c.successors.ensures, c.in-None.is)

pub returns-in-One : goal.returns-in-One
returns-in-One c = rw (sym c.successors.ensures, c.in-One.is) (of_one _ _ _ c.check_edge.ensures)

pub returns-in_err-check_edge-in-Two : goal.returns-in_err-check_edge-in-Two
returns-in_err-check_edge-in-Two c = rw (sym c.successors.ensures, c.in-Two.is)
    (of_first _ _ _ c.check_edge-in-Two.ensures _ _ c.in_err-check_edge-in-Two.was _ c.from_residual.ensures.1)

pub returns-in_ok-check_edge-in-Two : goal.returns-in_ok-check_edge-in-Two
returns-in_ok-check_edge-in-Two c = rw (sym c.successors.ensures, c.in-Two.is)
    (of_second _ _ _ c.check_edge-in-Two.ensures _ _ c.in_ok-check_edge-in-Two.was _ c.check_edge-in-Two-2.ensures)
