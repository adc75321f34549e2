-- What a run of calls is printed as.
use Rattle.std.specs.Prelude.{ℕ, Option, None, Some, List, [], ◌∷◌, ◌++◌, codes}
use Rattle.std.specs.Fmt.{decimal}
use Rattle.machine.specs.declared.State.{State}
use Rattle.printout.specs.Lines.{answer_lines, state_lines}
use Rattle.rules.specs.Judge.{printed}
use Rattle.rules.specs.declared.Verdict.{Verdict}
use Rattle.rules.specs.declared.Verdict.TheVariants.{Accepted, Broken, Unread}

-- the line that is no call
abbrev pub fault_line : ℕ → List ℕ
fault_line line = codes "unread line=" ++ decimal line ++ 10 ∷ []

-- the answers, and then the state, or the line that is no call
abbrev pub run_lines : List ℕ → State → Option ℕ → List ℕ
run_lines answers s (Some line) = answer_lines answers ++ fault_line line
run_lines answers s None = answer_lines answers ++ state_lines s

-- the run of an accepted pair, else the verdict
abbrev pub verdict_or_run : Verdict → List ℕ → State → Option ℕ → List ℕ
verdict_or_run Accepted answers s fault = run_lines answers s fault
verdict_or_run (Broken b) answers s fault = printed (Broken b)
verdict_or_run (Unread f) answers s fault = printed (Unread f)
