-- Each array moves down by one place, the tags by one row.
use Rattle.std.proofs.Common.{rules}
use Rattle.spawning.proofs.Moves.{left_processes}
use Rattle.spawning.proofs.leave.Goals as goal

pub returns : goal.returns
returns c = λ h l few. left_processes _ _ _ _ _ c.args.serials.now c.args.templates.now c.args.labels.now c.args.tags.now _ _ _ _ h l few
    (search rules) (search rules) (search rules) (search rules) c.row_start-from.ensures c.row_start-to.ensures
    c.shift.ensures c.shift-2.ensures c.shift-3.ensures c.shift-4.ensures
