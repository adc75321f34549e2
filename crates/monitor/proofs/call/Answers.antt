-- What the call did on the arrays that the state lends.
use Rattle.machine.specs.State.{machine_of, outcome_of}
use Rattle.population.proofs.ByRow.{by_row}
use Rattle.monitor.proofs.Kept.{kept}
use Rattle.monitor.proofs.call.Goals as goal

pub returns : goal.returns
unfolding machine_of outcome_of
returns c = let did = by_row _ _ c.row_of-row.ensures _ _ _ _ _ _ c.run_call-answer.ensures in
    (did.means, kept c.args.state _ _ _ did.same)
