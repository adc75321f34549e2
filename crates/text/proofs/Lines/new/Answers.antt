-- The length decides.
use native.Mathlib.Omega.{arith}
use Rattle.text.proofs.Opening.{long_text, started}
use Rattle.text.proofs.Lines.new.Goals as goal

pub returns-then-text-gt-LONGEST : goal.returns-then-text-gt-LONGEST
returns-then-text-gt-LONGEST c = long_text _ (omega arith) _ (grind arith)

pub returns : goal.returns
returns c = started _ (omega arith) _
