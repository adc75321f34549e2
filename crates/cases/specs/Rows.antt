-- Cases a to m of document 01, and its "Also" lines: what is asked, and what is answered.
use Rattle.std.specs.Prelude.{ℕ, List, [], ◌∷◌, ◌++◌, map}
use Prim.Native.String.{String}
use Rattle.text.specs.Reading.{Reading, Complete, read_plan}
use Rattle.rules.specs.Judge.{judge, Line, says, counts, report}
use Rattle.machine.specs.declared.Answer.{Answer}
use Rattle.machine.specs.declared.Answer.TheVariants.{Done, Delivered, Held, Refused}
use Rattle.machine.specs.Machine.{Process, Machine, box_limits, Call, step, send, raise, run}
use Rattle.machine.specs.State.{started}
use Rattle.promise.specs.Replay.{machine_after}
use Rattle.cases.specs.Base.{text, base_plan, reader, base_policy, heading, changing, asserting, with_prot, plan_d, plan_e, full_plan}

-- What is asked: the verdict on two texts, the answer to a call after a list of calls from the started base box, what
-- such a list leaves, or whether a plan text reads.
pub data Question : Type 0 where
  verdict_on : List ℕ → List ℕ → Question
  answer_to : List Call → Call → Question
  left_by : List Call → Question
  reading_of : List ℕ → Question

-- What is answered: the lines that `judge` prints, the call's answer, the next serial with the live serials and their
-- templates, or the reading.
pub data Reply : Type 0 where
  prints : List Line → Reply
  answers : Answer → Reply
  leaves : ℕ → List ℕ → List ℕ → Reply
  reads : Reading → Reply

unfoldable pub box : List Call → Machine
box calls = machine_after box_limits (started (text base_plan) (text base_policy)) calls

unfoldable pub left : Machine → Reply
left m = leaves m.next (map (λ (p : Process). p.serial) m.live) (map (λ (p : Process). p.template) m.live)

unfoldable pub reply : Question → Reply
reply (verdict_on plan policy) = prints (report (judge plan policy))
reply (answer_to calls call) = answers (run box_limits (box calls) call).answer
reply (left_by calls) = left (box calls)
reply (reading_of plan) = reads (read_plan plan).answer

pub record Row : Type 0 where
  pub asked : Question
  pub told : Reply

abbrev pub ◌gives◌ : Question → Reply → Row
◌gives◌ question answer = record { asked = question; told = answer }

abbrev pub accepted : Reply
accepted = prints (says "verdict" "accepted" ∷ [])

abbrev pub broken : ℕ → ℕ → ℕ → ℕ → Reply
broken rule first second identifier = prints (
    says "verdict" "broken" ∷ counts "rule" rule ∷ counts "first" first
    ∷ counts "second" second ∷ counts "identifier" identifier ∷ [])

abbrev pub unread : String → ℕ → ℕ → Reply
unread name number line = prints (
    says "verdict" "unread" ∷ says "text" name ∷ counts "number" number ∷ counts "line" line ∷ [])

-- "Run of a, branches 0: steps of 0, 1, 2, 3, 5."
abbrev pub run_of_a : List Call
run_of_a = step 0 0 ∷ step 1 0 ∷ step 2 0 ∷ step 3 0 ∷ step 5 0 ∷ []

infix 10 ◌gives◌
unfoldable pub rows : List Row
rows =
    (verdict_on (text base_plan) (text base_policy) gives accepted)  -- a
    ∷ (verdict_on (text base_plan) (text (asserting 0 "declass=0000000000000006" base_policy)) gives broken 17 0 3 255)  -- b
    ∷ (verdict_on (text (changing reader "lab=00000000" base_plan)) (text base_policy) gives broken 13 2 3 0)  -- c
    ∷ (verdict_on (text plan_d) (text base_policy) gives broken 14 1 2 0)  -- d
    ∷ (verdict_on (text plan_e) (text base_policy) gives broken 17 0 3 255)  -- e
    ∷ (verdict_on (text base_plan) (text (with_prot "source=3" "sink=3" "anc=0")) gives broken 19 1 3 0)  -- f
    ∷ (verdict_on (text base_plan) (text (with_prot "source=3" "sink=1" "anc=2")) gives broken 18 1 1 0)  -- g
    ∷ (left_by run_of_a gives leaves 8 (4 ∷ 6 ∷ 7 ∷ []) (3 ∷ 1 ∷ 3 ∷ []))
    ∷ (answer_to run_of_a (send 4 7) gives answers Held)  -- h
    ∷ (answer_to run_of_a (send 6 4) gives answers Delivered)  -- i
    ∷ (answer_to run_of_a (send 4 6) gives answers Held)  -- j
    ∷ (answer_to run_of_a (raise 4 0) gives answers (Refused 29))  -- k
    ∷ (answer_to run_of_a (raise 6 0) gives answers (Refused 28))  -- l
    ∷ (answer_to run_of_a (step 4 0) gives answers Done)  -- m
    ∷ (answer_to (run_of_a ++ (step 4 0 ∷ [])) (step 4 0) gives answers (Refused 21))  -- m, again
    ∷ (answer_to run_of_a (step 6 1) gives answers (Refused 22))
    ∷ (answer_to run_of_a (send 7 7) gives answers (Refused 26))
    ∷ (answer_to run_of_a (raise 7 1) gives answers (Refused 27))
    ∷ (verdict_on (text (heading "templates=0" base_plan)) (text base_policy) gives unread "plan" 3 1)
    ∷ (verdict_on (text (heading "templates=65" base_plan)) (text base_policy) gives unread "plan" 3 1)
    ∷ (reading_of full_plan gives reads Complete)
    ∷ []
