-- Line 0 is at the end; line 1 is after no line.
use Rattle.locating.proofs.Lines.{fault_none, fault_line}
use Rattle.locating.proofs.faulty_line.Goals as goal

pub returns-then-line-eq0-clause-place : goal.returns-then-line-eq0-clause-place
returns-then-line-eq0-clause-place c = search fault_none

pub returns-else-line-eq0-clause-place : goal.returns-else-line-eq0-clause-place
returns-else-line-eq0-clause-place c = search fault_line
