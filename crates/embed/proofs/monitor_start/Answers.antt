-- What start gave, written out.
use Rattle.embed.proofs.Begun.{starts_so}
use Rattle.embed.proofs.monitor_start.Goals as goal

pub returns : goal.returns
returns c =
    rw (c.copy_from_slice.ensures.after, c.copy_from_slice-2.ensures.after, c.copy_from_slice-3.ensures.after, c.copy_from_slice-4.ensures.after)
    (starts_so _ _ _ c.start-verdict.ensures _ _ c.into.ensures c.row_of.ensures)
