-- What start leaves and what replay hands back (include/monitor.h). Judge and locate: crate rules; calls on lent memory:
-- crate memory.
-- Believed: everything here. Proved against it: crate embed.
use Rattle.std.specs.Prelude.{ℕ, ◌≡◌, List}
use Rattle.std.proofs.Math.Option.{some}
use Rattle.rules.specs.Judge.{judge, numbers_of}
use Rattle.machine.specs.declared.State.{State}
use Rattle.machine.specs.State.{started, started_state}
use Rattle.playback.specs.Playback.{Replays}
use Rattle.playback.specs.Running.{Memory, memory_of, machine_in}
use Rattle.planrow.specs.Row.{plan_of_row, row_of_plan}

-- ---- start

-- The verdict, the row and the memory that start leaves: the row is that of the started machine's plan and means that
-- plan, the memory means that machine and is that of the started state, unused places too; not accepted, both are blank.
pub record Starts (plan_text policy_text : List ℕ) (verdict row : List ℕ) (after : Memory) : Type 0 where
  pub judged : verdict ≡ numbers_of (judge plan_text policy_text)
  pub written : row ≡ row_of_plan (started plan_text policy_text).plan
  pub means : plan_of_row row ≡ some (started plan_text policy_text).plan
  pub machine : machine_in (started plan_text policy_text).plan after ≡ started plan_text policy_text
  pub left : after ≡ memory_of (started_state plan_text policy_text)

-- ---- a box judged, started and run

-- What replay hands back from the two texts, its verdict as words. The state that the calls leave is not handed on.
pub record ReplayedAll (plan_text policy_text words places : List ℕ) (verdict : List ℕ) (count : ℕ) (filled : List ℕ) : Type 0 where
  pub judged : verdict ≡ numbers_of (judge plan_text policy_text)
  pub replayed : (state : State) × Replays plan_text policy_text words places (judge plan_text policy_text) count state filled
