-- The line is opened, then its field read.
use mathlib.Core.Path.{refl}
use native.Mathlib.Omega.{arith}
use Rattle.std.proofs.lemmas.Fn.{gave_at}
use Rattle.text.proofs.Opening.{missing_answer, refused_answer, read_answer}
use Rattle.text.proofs.Lines.field.Goals as goal

pub returns-in_default-clause-answer : goal.returns-in_default-clause-answer
returns-in_default-clause-answer g c = missing_answer _ _ _ _ _ c.open.ensures.opened _ c.in_default.is _ (omega arith)

pub returns-in-Ok-clause-answer : goal.returns-in-Ok-clause-answer
returns-in-Ok-clause-answer g c = read_answer _ _ _ _ _ c.open.ensures.opened c.in-Some.field c.in-Some.next c.in-Some.is _ (gave_at g.F.FnOnce {f = c.args.read} {y = c.in-Some.field} {r = c.read.result} c.read.ensures refl) _ c.in-Ok.is c.in-Some.ensures.next_line

pub returns-in-Err-clause-answer : goal.returns-in-Err-clause-answer
returns-in-Err-clause-answer g c = refused_answer _ _ _ _ _ c.open.ensures.opened c.in-Some.field c.in-Some.next c.in-Some.is _ (gave_at g.F.FnOnce {f = c.args.read} {y = c.in-Some.field} {r = c.read.result} c.read.ensures refl) _ _ c.in-Err.is
