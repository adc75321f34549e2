-- What a State means, the machine that its arrays stand for; and a call and an answer as words.
-- Believed: everything here. Proved against it: crates dispatch, starting, monitor, running, replaying, memory and embed.
use Rattle.std.specs.Prelude.{ℕ, zero, suc, ◌+◌, ◌*◌, List, get_or, replicate}
use Rattle.lists.specs.Numbers.{tabulate}
use Rattle.plan.specs.{declared.Plan.{Plan}, Plan.{at}}
use Rattle.text.specs.Reading.{read_plan, no_plan}
use Rattle.rules.specs.{declared.Verdict.{Verdict, TheVariants.{Accepted, Broken, Unread}}, Judge.{judge}}
use Rattle.machine.specs.declared.{State.{State}, Answer.{Answer, TheVariants.{Done, Delivered, Held, Refused}}}
use Rattle.machine.specs.declared.Answered.{Answered}
use Rattle.machine.specs.Machine.{Process, Machine, Call, step, send, raise, lower, Outcome, start}

-- What the four arrays hold.
pub record Cells : Type 0 where
  pub serials : List ℕ
  pub templates : List ℕ
  pub labels : List ℕ
  pub tags : List ℕ

-- So many words from a place on.
unfoldable pub words_from : ℕ → List ℕ → ℕ → List ℕ
words_from n xs from = tabulate n (λ i. get_or xs (from + i) 0)

-- The process at a place, of M identifiers: tag i stands at place * M + i.
unfoldable pub placed : ℕ → Cells → ℕ → Process
placed M cells place = record {
  serial = get_or cells.serials place 0;
  template = get_or cells.templates place 0;
  label = get_or cells.labels place 0;
  tags = words_from M cells.tags (place * M);
}

-- The processes at the first so many places: "unused places carry no meaning".
unfoldable pub processes_of : ℕ → ℕ → Cells → List Process
processes_of M live cells = tabulate live (placed M cells)

unfoldable pub machine_from : Plan → ℕ → ℕ → Cells → Machine
machine_from plan next live cells = record { plan = plan; next = next; live = processes_of plan.identifiers live cells }

abbrev pub cells_of : State → Cells
cells_of s = record { serials = s.serials; templates = s.templates; labels = s.labels; tags = s.tags }

unfoldable pub machine_of : State → Machine
machine_of s = machine_from s.plan s.next s.live (cells_of s)

-- What an operation's answer means.
unfoldable pub outcome_of : Answered → Outcome
outcome_of r = record { answer = r.answer; machine = machine_of r.state }

-- P holds unless the answer is Done: what a call promises of the state that it then hands back. A refused call changes
-- nothing, and of a send "the state stays".
unfoldable pub unless_done : Answer → Type 0 → Type 0
unless_done Done P = Prim.Unit
unless_done Delivered P = P
unless_done Held P = P
unless_done (Refused n) P = P

-- The state that start hands back beside a verdict that is not accepted.
abbrev pub blank_state : State
blank_state =
    let zeros : List ℕ = replicate 128 0 in
    record { plan = no_plan; next = 0; live = 0; serials = zeros; templates = zeros; labels = zeros; tags = replicate 4096 0 }

-- "Serial 0 lives at the root, label lab 0, all tags 0, next serial 1": as a state, its unused places like the first.
abbrev pub root_state : Plan → State
root_state plan =
    let zeros : List ℕ = replicate 128 0 in
    record { plan = plan; next = 1; live = 1; serials = zeros; templates = zeros; labels = replicate 128 (at plan 0).lab; tags = replicate 4096 0 }

-- "Start judges both texts and gives the judge's answer if not accepted": the state that it hands back,
unfoldable pub state_on : Verdict → Plan → State
state_on Accepted plan = root_state plan
state_on (Broken b) plan = blank_state
state_on (Unread f) plan = blank_state

unfoldable pub started_state : List ℕ → List ℕ → State
started_state plan_text policy_text = state_on (judge plan_text policy_text) (read_plan plan_text).plan

-- and the machine that it starts.
unfoldable pub start_on : Verdict → Plan → Machine
start_on Accepted plan = start plan
start_on (Broken b) plan = machine_of blank_state
start_on (Unread f) plan = machine_of blank_state

unfoldable pub started : List ℕ → List ℕ → Machine
started plan_text policy_text = start_on (judge plan_text policy_text) (read_plan plan_text).plan

-- ---- a call and an answer as words

-- A call as three words: its kind (0 step, 1 send, 2 raise, any other lower) and its two numbers.
unfoldable pub call_of : ℕ → ℕ → ℕ → Call
call_of zero x y = step x y
call_of (suc zero) x y = send x y
call_of (suc (suc zero)) x y = raise x y
call_of (suc (suc (suc n))) x y = lower x y

-- "A definition gives this paper's number and values for each of its cases": 0 done, 1 delivered, 2 held, and a refusal's own.
unfoldable pub code_of : Answer → ℕ
code_of Done = 0
code_of Delivered = 1
code_of Held = 2
code_of (Refused n) = n
