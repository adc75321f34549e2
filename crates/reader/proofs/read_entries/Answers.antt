-- After i templates what is left to fill leads to the same end.
use Rattle.std.proofs.Common.{refl, ◌∙◌, length-set}
use Rattle.reader.proofs.Templates.{filling_first, filling_next, filling_stop, filling_last}
use Rattle.reader.proofs.read_entries.Goals as goal

pub loop-i-init : goal.loop-i-init
loop-i-init c = (search filling_first, refl)

pub loop-i-preserved : goal.loop-i-preserved
loop-i-preserved c = (
  filling_next _ _ _ _ _ _ _ c.loop-i.invariant.0 _ _ c.read_entry.ensures.answer c.loop-i-test.true _ _ c.in_ok-name.was c.requires c.loop-i.invariant.1,
  length-set _ _ _ ∙ c.loop-i.invariant.1,
)

pub returns-in_err-name : goal.returns-in_err-name
returns-in_err-name c =
    filling_stop _ _ _ _ _ _ _ c.loop-i.invariant.0 _ _ c.read_entry.ensures.answer c.loop-i-test.true _ c.in_err-name.was _ _ c.from_residual.ensures.1

pub returns : goal.returns
returns c = search filling_last
