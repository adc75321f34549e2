-- What a call leaves of lent memory, and a whole list of calls, one after the other.
-- Believed by who links the static library. Proved against it: crates running, replaying, memory and embed.
use Rattle.std.specs.Prelude.{ℕ, ◌/◌, min, ◌≡◌, List, length}
use Rattle.plan.specs.declared.Plan.{Plan}
use Rattle.machine.specs.declared.State.{State}
use Rattle.machine.specs.Machine.{Machine, Call, step, send, raise, lower, box_limits}
use Rattle.machine.specs.State.{Cells, machine_from}
use Rattle.promise.specs.Replay.{machine_after}
use Rattle.playback.specs.Playback.{Does, Played}

-- Beside a plan: the next serial, the number of live processes and the four arrays, unused places too.
pub record Memory : Type 0 where
  pub next : ℕ
  pub live : ℕ
  pub cells : Cells

abbrev pub memory : ℕ → ℕ → List ℕ → List ℕ → List ℕ → List ℕ → Memory
memory next live serials templates labels tags = record {
  next = next;
  live = live;
  cells = record { serials = serials; templates = templates; labels = labels; tags = tags };
}

-- The memory of a state.
abbrev pub memory_of : State → Memory
memory_of s = memory s.next s.live s.serials s.templates s.labels s.tags

-- The machine that it means.
unfoldable pub machine_in : Plan → Memory → Machine
machine_in plan m = machine_from plan m.next m.live m.cells

-- ---- one call

-- Nothing but the labels was touched.
pub record LabelsAlone (before after : Memory) : Type 0 where
  pub next : after.next ≡ before.next
  pub live : after.live ≡ before.live
  pub serials : after.cells.serials ≡ before.cells.serials
  pub templates : after.cells.templates ≡ before.cells.templates
  pub tags : after.cells.tags ≡ before.cells.tags

-- What a call may touch, whatever it answers: of a send "the state stays".
unfoldable pub Touches : Call → Memory → Memory → Type 0
Touches (step s branch) before after = Prim.Unit
Touches (send from to) before after = after ≡ before
Touches (raise s i) before after = LabelsAlone before after
Touches (lower s i) before after = LabelsAlone before after

-- What a call leaves of lent memory beside a plan.
pub record Leaves (plan : Plan) (call : Call) (met left : Memory) : Type 0 where
  pub does : Does (machine_in plan) call met left
  pub touches : Touches call met left

-- ---- a list of calls

-- As many calls as there are words and places for were played from the machine that the memory means.
pub record PlayedAll {A : Type 0} (means : A → Machine) (does : Call → A → A → Type 0) (words : List ℕ) (met : A) (before : List ℕ) (count : ℕ) (left : A) (after : List ℕ) : Type 0 where
  pub counted : count ≡ min (length words / 3) (length before)
  pub played : Played means does (machine_after box_limits (means met)) count words met before left after
