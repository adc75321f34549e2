-- The parent's tags are copied before it goes; then its children come.
use Rattle.std.proofs.Common.{refl}
use Rattle.spawning.proofs.Children.{advanced_none, advanced_one, advanced_two}
use Rattle.spawning.proofs.advance.Goals as goal

pub returns-in-None : goal.returns-in-None
returns-in-None c = rw c.in-None.is
    (advanced_none _ _ _ _ _ _ c.args.serials.now c.args.templates.now c.args.labels.now c.args.tags.now _ c.row_start-from.ensures c.copy_row-row.ensures c.leave.ensures)

pub returns-in-One : goal.returns-in-One
returns-in-One c = rw c.in-One.is
    (advanced_one _ _ _ _ _ _ c.args.serials.now c.args.templates.now c.args.labels.now c.args.tags.now _ c.row_start-from.ensures c.copy_row-row.ensures c.leave.ensures _ _ c.enter.ensures)

pub returns-in-Two : goal.returns-in-Two
returns-in-Two c = rw c.in-Two.is
    (advanced_two _ _ _ _ _ _ c.args.serials.now c.args.templates.now c.args.labels.now c.args.tags.now _ c.row_start-from.ensures c.copy_row-row.ensures c.leave.ensures
    _ _ _ _ _ _ refl refl c.enter-in-Two.ensures c.enter-in-Two-2.ensures)
