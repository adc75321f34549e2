-- What a list of calls leaves, the answers in a lent row of numbers; and what replay hands back, with the box promise.
-- Believed: everything here. Proved against it: crates running and replaying.
use Rattle.std.specs.Prelude.{ℕ, suc, ◌/◌, min, ◌≤◌, ◌<◌}
use mathlib.Core.{Path.{◌≡◌}, Logic.{◌≢◌}, List.{List}}
use Rattle.std.specs.Prelude.{length, get_or}
use Rattle.text.specs.Reading.{read_plan, read_policy}
use Rattle.rules.specs.{declared.Verdict.{Verdict, TheVariants.{Accepted, Broken, Unread}}, Judge.{judge}}
use Rattle.machine.specs.declared.State.{State}
use Rattle.machine.specs.Machine.{Machine, Call, box_limits, run}
use Rattle.machine.specs.State.{machine_of, blank_state, root_state, unless_done, code_of}
use Rattle.promise.specs.{History.{world_after}, Promise.{Promised}, Replay.{call_at, calls_in}}

-- ---- a list of calls

-- What a call left means the machine's own outcome, and unless the call was done it is the very memory that it met, unused
-- places too: "a refused call hands on the state it got".
pub record Does {A : Type 0} (means : A → Machine) (call : Call) (met left : A) : Type 0 where
  pub machine : means left ≡ (run box_limits (means met) call).machine
  pub literal : unless_done (run box_limits (means met) call).answer (left ≡ met)

-- The first n calls led from the memory `before` to `left`, one after the other, where `does` tells what one call does.
pub data Through {A : Type 0} (does : Call → A → A → Type 0) (call : ℕ → Call) (before : A) : ℕ → A → Type 0 where
  begun : Through does call before 0 before
  onward : {n : ℕ} {met left : A} → Through does call before n met → does (call n) met left → Through does call before (suc n) left

-- The first n calls of the words led from the memory `met` to `left`, and the row of answers from `before` to `after`: an
-- answer for each call, and past them what stood there. `reached` is the machine that a list of calls leads to.
pub record Played {A : Type 0} (means : A → Machine) (does : Call → A → A → Type 0) (reached : List Call → Machine) (n : ℕ) (words : List ℕ)
    (met : A) (before : List ℕ) (left : A) (after : List ℕ) : Type 0 where
  pub machine : means left ≡ reached (calls_in n words)
  pub through : Through does (call_at words) met n left
  pub each : (j : ℕ) → j < n → get_or after j 0 ≡ code_of (run box_limits (reached (calls_in j words)) (call_at words j)).answer
  pub rest : (j : ℕ) → n ≤ j → get_or after j 0 ≡ get_or before j 0

-- ---- replay

-- How many calls are played: those that the words hold and the row has places for, and none where the verdict is not
-- accepted.
unfoldable pub playable : Verdict → ℕ → ℕ → ℕ
playable Accepted words places = min (words / 3) places
playable (Broken b) words places = 0
playable (Unread f) words places = 0

-- What replay hands back. Accepted: from the very state that start gives the calls are played, what they reach is the
-- world's own machine, whichever the Declass of its history, and the box promise holds of the world after them. Else
-- nothing is touched, and the state is the blank one.
pub record Replays (plan_text policy_text words before : List ℕ) (verdict : Verdict) (count : ℕ) (state : State) (after : List ℕ) : Type 0 where
  pub judged : verdict ≡ judge plan_text policy_text
  pub counted : count ≡ playable verdict (length words) (length before)
  pub played : verdict ≡ Accepted
      → let plan = (read_plan plan_text).plan in
      (declass : ℕ)
      → Played machine_of (Does machine_of) (λ calls. (world_after box_limits plan declass calls).machine) count words (root_state plan) before state after
  pub promised : verdict ≡ Accepted
      → let plan = (read_plan plan_text).plan in
      Promised box_limits plan (read_policy plan.count policy_text).policy (calls_in count words)
  pub untouched : verdict ≢ Accepted → (state ≡ blank_state) × (after ≡ before)
