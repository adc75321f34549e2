-- The words of the first i templates stand there (Writing).
use mathlib.Core.Path.{◌∙◌}
use native.Mathlib.Omega.{arith}
use Rattle.encoding.proofs.Writing.{writing_none, writing_more, writing_all}
use Rattle.encoding.proofs.row_of.Goals as goal

pub loop-i-init : goal.loop-i-init
loop-i-init c = search writing_none

pub loop-i-preserved : goal.loop-i-preserved
loop-i-preserved c =
    writing_more _ _ _ _ _ _ _ c.loop-i.invariant c.loop-i-test.true (omega arith) (c.copy_from_slice.ensures.after ∙ c.words_of.ensures)

pub returns : goal.returns
returns c = writing_all _ _ _ _ c.loop-i.invariant c.loop-i-test.false
