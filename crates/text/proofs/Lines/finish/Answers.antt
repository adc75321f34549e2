-- What is left decides.
use mathlib.Core.Path.{sym}
use native.Mathlib.Omega.{arith}
use Rattle.text.proofs.Opening.{closed_whole, closed_extra}
use Rattle.text.proofs.Lines.finish.Goals as goal

pub returns-then-is_empty : goal.returns-then-is_empty
returns-then-is_empty c = closed_whole _ _ (grind arith)

pub returns : goal.returns
returns c = rw (sym c.line.ensures) (closed_extra _ _ (grind arith))
