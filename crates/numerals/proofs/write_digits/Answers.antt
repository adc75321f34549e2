-- What is still to be written, written into what stands now, is the whole written into what stood.
use mathlib.Core.Path.{◌∙◌}
use Rattle.numerals.proofs.Digits.{rest_room, turn, none_left}
use Rattle.numerals.proofs.write_digits.Goals as goal

pub loop-i-preserved : goal.loop-i-preserved
loop-i-preserved c = let l = c.loop-i in
    (rest_room _ _ _ _ c.loop-i-test.true c.pow-p.ensures l.invariant.0, turn _ _ _ _ c.loop-i-test.true c.pow-p.ensures l.invariant.0 _ _ ∙ l.invariant.1)

pub returns : goal.returns
returns c = let l = c.loop-i in none_left _ _ _ _ _ c.loop-i-test.false ∙ l.invariant.1
