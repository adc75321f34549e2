-- What a history tells (document 01, "Kin and flow") in the run of a: each row is worked out by hand from that section, and pins
-- definitions of crates/promise/specs/History.antt.
-- Not to be believed: the rows hold, by computation.
use Rattle.std.specs.Prelude.{ℕ}
use Prim.Native.String.{String}
use mathlib.Core.{Bool.{Bool}, List.{List, [], ◌∷◌, ◌++◌}, Option.{Option, none, some}}
use Rattle.lists.specs.Chosen.{chosen}
use Rattle.plan.specs.{declared.Plan.{Plan}, declared.Assertion.{Assertion}, Plan.{assertion_at}}
use Rattle.text.specs.Reading.{read_plan, read_policy}
use Rattle.route.specs.Route.{equals}
use Rattle.rules.specs.{declared.Verdict.{Verdict}, Judge.{judge}}
use Rattle.machine.specs.declared.Answer.{Answer}
use Rattle.machine.specs.Machine.{box_limits, Call, step, send, raise, lower, run}
use Rattle.promise.specs.History.{Node, node, World, lineage, nearest, world_after}
use Rattle.cases.specs.Base.{text, base_plan, boot, hub, split, reader, base_policy}
use Rattle.cases.specs.Rows.{run_of_a}

-- The plan and an assertion, as they are read from the bytes of two texts.
unfoldable pub plan_in : List String → Plan
plan_in plan = (read_plan (text plan)).plan

unfoldable pub assertion_in : List String → List String → ℕ → Assertion
assertion_in plan policy i = assertion_at (read_policy (plan_in plan).count (text policy)).policy i

-- The world after a list of calls, for the Declass of assertion i.
unfoldable pub world_for : List String → List String → ℕ → List Call → World
world_for plan policy i calls = world_after box_limits (plan_in plan) (assertion_in plan policy i).declass calls

-- What is asked: the verdict on two texts; or of a world who was made, who lives, who has moved its own label; the lineage of a
-- serial; the nearest process executing A on it; whom it knows; the answer to a call that comes next.
pub data Question : Type 0 where
  verdict_on : List String → List String → Question
  made : World → Question
  living : World → Question
  movers : World → Question
  lineage_of : ℕ → World → Question
  nearest_to : ℕ → ℕ → World → Question
  known_to : ℕ → World → Question
  answer_to : Call → World → Question

pub data Reply : Type 0 where
  judged : Verdict → Reply
  serials : List ℕ → Reply
  nodes : List Node → Reply
  found : Option ℕ → Reply
  answers : Answer → Reply

-- The serials that pass, of those that any list of calls here makes.
unfoldable pub those : (ℕ → Bool) → Reply
those test = serials (chosen 9 test (λ s. s))

unfoldable pub reply : Question → Reply
reply (verdict_on plan policy) = judged (judge (text plan) (text policy))
reply (made w) = those (λ s. (w.history s).born)
reply (living w) = those (λ s. (w.history s).live)
reply (movers w) = those (λ s. (w.history s).moved)
reply (lineage_of s w) = nodes (lineage s (w.history s))
reply (nearest_to s A w) = found (nearest (equals A) (lineage s (w.history s)))
reply (known_to s w) = those (w.history s).knows
reply (answer_to call w) = answers (run box_limits w.machine call).answer

pub record Row : Type 0 where
  pub asked : Question
  pub told : Reply

abbrev pub ◌gives◌ : Question → Reply → Row
◌gives◌ question answer = record { asked = question; told = answer }

-- Cases h and i, and calls after the run of a.
abbrev h : Call
h = send 4 7

abbrev i : Call
i = send 6 4

abbrev after_run : List Call → World
after_run more = world_for base_plan base_policy 0 (run_of_a ++ more)

-- The same where nobody is at Declass, as past the one assertion.
abbrev open_after_run : List Call → World
open_after_run more = world_for base_plan base_policy 1 (run_of_a ++ more)

-- "Its line is itself, its parent and so on to serial 0."
abbrev line_from3 : List Node
line_from3 = node 3 hub ∷ node 2 split ∷ node 1 hub ∷ node 0 boot ∷ []

infix 10 ◌gives◌
unfoldable pub base_rows : List Row
base_rows =
    -- "it is live from its creation to its own accepted step": who stepped is not live; a refused step (22) ends and makes nobody
    (made (after_run []) gives serials (0 ∷ 1 ∷ 2 ∷ 3 ∷ 4 ∷ 5 ∷ 6 ∷ 7 ∷ []))
    ∷ (living (after_run []) gives serials (4 ∷ 6 ∷ 7 ∷ []))
    ∷ (made (after_run (step 6 1 ∷ [])) gives serials (0 ∷ 1 ∷ 2 ∷ 3 ∷ 4 ∷ 5 ∷ 6 ∷ 7 ∷ []))
    ∷ (living (after_run (step 6 1 ∷ [])) gives serials (4 ∷ 6 ∷ 7 ∷ []))
    ∷ (living (after_run (step 4 0 ∷ [])) gives serials (6 ∷ 7 ∷ []))
    ∷ (made (after_run (step 6 0 ∷ [])) gives serials (0 ∷ 1 ∷ 2 ∷ 3 ∷ 4 ∷ 5 ∷ 6 ∷ 7 ∷ 8 ∷ []))
    ∷ (living (after_run (step 6 0 ∷ [])) gives serials (4 ∷ 7 ∷ 8 ∷ []))
    -- "ended processes still stand on lines": lines from both children of a split
    ∷ (lineage_of 4 (after_run []) gives nodes (node 4 reader ∷ node 2 split ∷ node 1 hub ∷ node 0 boot ∷ []))
    ∷ (lineage_of 6 (after_run []) gives nodes (node 6 hub ∷ node 5 split ∷ line_from3))
    ∷ (lineage_of 7 (after_run []) gives nodes (node 7 reader ∷ node 5 split ∷ line_from3))
    -- the nearest and not the farthest, on its own line, itself included: under hub and under split 4 and 7 are not kin
    ∷ (nearest_to 4 hub (after_run []) gives found (some 1)) ∷ (nearest_to 7 hub (after_run []) gives found (some 3))
    ∷ (nearest_to 4 split (after_run []) gives found (some 2)) ∷ (nearest_to 7 split (after_run []) gives found (some 5))
    ∷ (nearest_to 4 reader (after_run []) gives found (some 4)) ∷ (nearest_to 7 reader (after_run []) gives found (some 7))
    -- 6 and 7 are kin under split and not under hub; all three are under boot; the hub has no reader on its line
    ∷ (nearest_to 6 split (after_run []) gives found (some 5)) ∷ (nearest_to 6 hub (after_run []) gives found (some 6))
    ∷ (nearest_to 4 boot (after_run []) gives found (some 0)) ∷ (nearest_to 6 boot (after_run []) gives found (some 0))
    ∷ (nearest_to 7 boot (after_run []) gives found (some 0)) ∷ (nearest_to 6 reader (after_run []) gives found none)
    -- a Declass process inherits nothing: boot, hub and split know themselves, a reader itself and what its split knew
    ∷ (known_to 0 (after_run []) gives serials (0 ∷ [])) ∷ (known_to 3 (after_run []) gives serials (3 ∷ []))
    ∷ (known_to 5 (after_run []) gives serials (5 ∷ [])) ∷ (known_to 6 (after_run []) gives serials (6 ∷ []))
    ∷ (known_to 4 (after_run []) gives serials (2 ∷ 4 ∷ [])) ∷ (known_to 7 (after_run []) gives serials (5 ∷ 7 ∷ []))
    -- after i the receiver knows the sender, the sender no more than before; after h, which is held, nobody has learnt
    ∷ (known_to 4 (after_run (i ∷ [])) gives serials (2 ∷ 4 ∷ 6 ∷ [])) ∷ (known_to 6 (after_run (i ∷ [])) gives serials (6 ∷ []))
    ∷ (known_to 7 (after_run (i ∷ [])) gives serials (5 ∷ 7 ∷ []))
    ∷ (known_to 7 (after_run (h ∷ [])) gives serials (5 ∷ 7 ∷ [])) ∷ (known_to 4 (after_run (h ∷ [])) gives serials (2 ∷ 4 ∷ []))
    ∷ (known_to 7 (after_run (i ∷ h ∷ [])) gives serials (5 ∷ 7 ∷ []))
    -- ended processes "still know and are known"
    ∷ (known_to 4 (after_run (i ∷ step 6 0 ∷ step 4 0 ∷ [])) gives serials (2 ∷ 4 ∷ 6 ∷ []))
    ∷ (known_to 8 (after_run (i ∷ step 6 0 ∷ [])) gives serials (8 ∷ []))
    -- refused moves (29, 28, 27) mark nobody
    ∷ (movers (after_run (raise 4 0 ∷ raise 6 0 ∷ raise 7 1 ∷ lower 4 0 ∷ [])) gives serials [])
    -- where nobody is at Declass "a child knows what its parent knew", up to serial 0 and not what its sister knows
    ∷ (known_to 4 (open_after_run []) gives serials (0 ∷ 1 ∷ 2 ∷ 4 ∷ []))
    ∷ (known_to 6 (open_after_run []) gives serials (0 ∷ 1 ∷ 2 ∷ 3 ∷ 5 ∷ 6 ∷ []))
    ∷ (known_to 7 (open_after_run []) gives serials (0 ∷ 1 ∷ 2 ∷ 3 ∷ 5 ∷ 7 ∷ []))
    -- and after i 4 knows all that 6 knows, but 7 nothing of it after h
    ∷ (known_to 4 (open_after_run (i ∷ [])) gives serials (0 ∷ 1 ∷ 2 ∷ 3 ∷ 4 ∷ 5 ∷ 6 ∷ []))
    ∷ (known_to 7 (open_after_run (i ∷ h ∷ [])) gives serials (0 ∷ 1 ∷ 2 ∷ 3 ∷ 5 ∷ 7 ∷ []))
    ∷ []
