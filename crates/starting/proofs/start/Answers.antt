-- The verdict is the judge's. Not accepted, the state is blank; accepted, it is the root's, of the plan that was read.
use Rattle.starting.proofs.Starting.{started_not, started_so}
use Rattle.std.proofs.Common.{ap}
use mathlib.Core.Bool.{not}
use Rattle.starting.proofs.start.Goals as goal

pub returns-then-not-is_accepted : goal.returns-then-not-is_accepted
returns-then-not-is_accepted c = started_not _ _ _ c.judge-verdict.ensures _ c.is_accepted.ensures (ap not c.if-not-is_accepted.true)
    _ c.blank_state-state.ensures

pub returns : goal.returns
returns c = started_so _ _ _ c.judge-verdict.ensures _ c.is_accepted.ensures
    (ap not c.if-not-is_accepted.false) _ c.read_plan.ensures _ _ c.no_plan.ensures c.unwrap_or-read.ensures _ c.root_state-state.ensures
