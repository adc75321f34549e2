-- Each turn skips one line; the line sought is the same from where it stands.
use native.Mathlib.Omega.{arith}
use borrow.Author.Rules.{rules}
use Rattle.locating.proofs.Lines.{skip_none, skip_missing, skip_line, skip_done}
use Rattle.locating.proofs.line_start.Goals as goal

pub loop-init : goal.loop-init
loop-init c = search skip_none

pub returns-in_default-clause-place : goal.returns-in_default-clause-place
returns-in_default-clause-place c = skip_missing _ _ _ _ c.loop.invariant (omega arith) c.in_default.ensures.place

pub loop-preserved : goal.loop-preserved
loop-preserved c = skip_line _ _ _ _ c.loop.invariant (omega arith) _ c.in-Some.ensures.place c.in-Some.ensures.inside _ (omega arith)

pub returns : goal.returns
returns c = record { place = skip_done _ _ _ _ c.loop.invariant (omega arith); room = search rules }
