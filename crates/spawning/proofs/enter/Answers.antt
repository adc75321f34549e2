-- Each array takes its value at the place, the tags their row.
use Rattle.std.proofs.Common.{rules}
use Rattle.spawning.proofs.Moves.{entered_processes}
use Rattle.spawning.proofs.enter.Goals as goal

pub returns : goal.returns
returns c = entered_processes _ _ _ _ _ _ c.args.serials.now c.args.templates.now c.args.labels.now c.args.tags.now _ _ _ _ (search rules) (search rules) (search rules)
    c.row_start-from.ensures c.put.ensures c.put-2.ensures c.put-3.ensures c.write_row.ensures
