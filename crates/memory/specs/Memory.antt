-- The memory that a program in another language lends, and what calls answer and leave in it (include/monitor.h).
-- Believed: everything here. Proved against it: crate memory, and through it the calls that embed exports.
use Rattle.std.specs.Prelude.{ℕ, ◌/◌, min, ◌≤◌, ◌<◌, ◌≡◌, List, length, get_or}
use Rattle.std.proofs.Math.Option.{Option, none, some}
use Rattle.plan.specs.declared.Plan.{Plan}
use Rattle.machine.specs.Machine.{Call, box_limits, run}
use Rattle.machine.specs.State.{code_of}
use Rattle.playback.specs.Running.{Memory, memory, machine_in, Leaves, PlayedAll}

-- ---- the lent memory

-- What the place, next serial and number of live processes in one, and the four arrays hold.
abbrev pub held : List ℕ → List ℕ → List ℕ → List ℕ → List ℕ → Memory
held place serials templates labels tags = memory (get_or place 0 0) (get_or place 1 0) serials templates labels tags

-- ---- one call

-- Where the row means that plan or none, the call met `before`, gave the number `code` and left `after`.
-- No plan: 20, and nothing is touched. Else the machine's answer, and what the call leaves (`Leaves`).
unfoldable pub Answers : Option Plan → Call → Memory → ℕ → Memory → Type 0
Answers none call before code after = (code ≡ 20) × (after ≡ before)
Answers (some plan) call before code after =
    (code ≡ code_of (run box_limits (machine_in plan before) call).answer) × Leaves plan call before after

-- ---- a list of calls

-- The row of answers has 20 for each of the first n calls, and past them what stood there.
pub record AllRefused (n : ℕ) (before after : List ℕ) : Type 0 where
  pub each : (j : ℕ) → j < n → get_or after j 0 ≡ 20
  pub rest : (j : ℕ) → n ≤ j → get_or after j 0 ≡ get_or before j 0

-- The calls in the words met `before` and a row of places for answers; so many were played, and left `after` and the
-- answers. No plan: each is 20, and nothing else is touched.
unfoldable pub Runs : Option Plan → List ℕ → Memory → List ℕ → ℕ → Memory → List ℕ → Type 0
Runs none words before places count after filled =
    (count ≡ min (length words / 3) (length places)) × AllRefused count places filled × (after ≡ before)
Runs (some plan) words before places count after filled = PlayedAll (machine_in plan) (Leaves plan) words before places count after filled
