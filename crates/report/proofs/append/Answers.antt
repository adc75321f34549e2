-- The part from there on becomes the bytes.
use Rattle.report.proofs.Appended.{copied}
use Rattle.report.proofs.append.Goals as goal

pub returns : goal.returns
returns c = copied c.args.out.now c.args.bytes.now _ c.args.at c.requires c.copy_from_slice.ensures.after
