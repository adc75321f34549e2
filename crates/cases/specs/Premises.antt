-- A third plan, in which premises of the box promise (crates/promise/specs/Promise.antt) are missed one at a time: of the prot Kin,
-- "different", unmoved and live, of either process; of steps unmoved; and of the secrecy what Kin allows. All the others hold, and what
-- would be promised without that one is false: so none of these could be left out of the statement.
-- Each visit has a writer and a reader that share its tags 0 and 1. The writer is at risk and may add 2, which its visit made too;
-- the reader is at risk, may take 1 off, and goes on to close, which carries 0 and 1.
-- Each row is worked out by hand from document 01, "Kin and flow". Not to be believed: the rows hold, by computation.
use Rattle.std.specs.Prelude.{ℕ}
use Prim.Native.String.{String}
use mathlib.Core.{List.{List, [], ◌∷◌, ◌++◌}, Option.{some}}
use Rattle.rules.specs.declared.Verdict.TheVariants.{Accepted}
use Rattle.machine.specs.declared.Answer.TheVariants.{Done, Delivered, Held, Refused}
use Rattle.machine.specs.Machine.{Call, step, send, raise, lower}
use Rattle.promise.specs.History.{World}
use Rattle.cases.specs.Histories.{world_for, Row, ◌gives◌}
use Rattle.cases.specs.Histories.{verdict_on, living, movers, nearest_to, known_to, answer_to, judged, serials, found, answers}

unfoldable pub visit_plan : List String
visit_plan =
    "templates=5" ∷ "identifiers=3"
    ∷ "name=boot" ∷ "form=both:0,1" ∷ "lab=00000000" ∷ "pos=00000000" ∷ "neg=00000000" ∷ "creates=00000000" ∷ "risk=0"
    ∷ "name=visit" ∷ "form=both:2,3" ∷ "lab=00000003" ∷ "pos=00000007" ∷ "neg=00000002" ∷ "creates=00000007" ∷ "risk=0"
    ∷ "name=writer" ∷ "form=end" ∷ "lab=00000003" ∷ "pos=00000004" ∷ "neg=00000000" ∷ "creates=00000000" ∷ "risk=1"
    ∷ "name=reader" ∷ "form=go:4" ∷ "lab=00000003" ∷ "pos=00000000" ∷ "neg=00000002" ∷ "creates=00000000" ∷ "risk=1"
    ∷ "name=close" ∷ "form=end" ∷ "lab=00000003" ∷ "pos=00000000" ∷ "neg=00000000" ∷ "creates=00000000" ∷ "risk=0"
    ∷ []

-- Its template visit.
abbrev visit : ℕ
visit = 1

-- A reader knows no writer but its kin's; a writer reaches the reader of its visit, and any other writer of it.
unfoldable pub visit_policy : List String
visit_policy =
    "assertions=3"
    ∷ "kind=secrecy" ∷ "source=2" ∷ "sink=3" ∷ "anc=1" ∷ "declass=0000000000000000"
    ∷ "kind=prot" ∷ "source=2" ∷ "sink=3" ∷ "anc=1" ∷ "declass=0000000000000000"
    ∷ "kind=prot" ∷ "source=2" ∷ "sink=2" ∷ "anc=1" ∷ "declass=0000000000000000" ∷ []

-- After two visits and more calls: writer 3 and reader 4 of visit 2, writer 7 and reader 8 of visit 6, boot 5. No assertion has a
-- Declass, so one world serves all.
abbrev visited : List Call → World
visited more = world_for visit_plan visit_policy 0 ((step 0 0 ∷ step 2 0 ∷ step 1 0 ∷ step 6 0 ∷ []) ++ more)

unfoldable pub premise_rows : List Row
premise_rows =
    (verdict_on visit_plan visit_policy gives judged Accepted)
    -- every premise of the prot holds of writer 3 and reader 4, and the send is delivered
    ∷ (living (visited []) gives serials (3 ∷ 4 ∷ 5 ∷ 7 ∷ 8 ∷ [])) ∷ (movers (visited []) gives serials [])
    ∷ (nearest_to 3 visit (visited []) gives found (some 2)) ∷ (nearest_to 4 visit (visited []) gives found (some 2))
    ∷ (answer_to (send 3 4) (visited []) gives answers Delivered)
    -- without Kin: reader 8 is of the other visit
    ∷ (nearest_to 8 visit (visited []) gives found (some 6)) ∷ (answer_to (send 3 8) (visited []) gives answers Held)
    -- without "different": writer 3 is its own kin, at Source and at Sink of the second prot
    ∷ (answer_to (send 3 3) (visited []) gives answers (Refused 26))
    -- without "the sender has not moved": writer 3 adds 2 to its label
    ∷ (answer_to (raise 3 2) (visited []) gives answers Done) ∷ (movers (visited (raise 3 2 ∷ [])) gives serials (3 ∷ []))
    ∷ (answer_to (send 3 4) (visited (raise 3 2 ∷ [])) gives answers Held)
    -- without "the receiver has not moved": reader 4 takes 1 off its label
    ∷ (answer_to (lower 4 1) (visited []) gives answers Done) ∷ (movers (visited (lower 4 1 ∷ [])) gives serials (4 ∷ []))
    ∷ (answer_to (send 3 4) (visited (lower 4 1 ∷ [])) gives answers Held)
    -- without "live", of either
    ∷ (answer_to (send 3 4) (visited (step 3 0 ∷ [])) gives answers (Refused 21))
    ∷ (answer_to (send 3 4) (visited (step 4 0 ∷ [])) gives answers (Refused 21))
    -- a step of reader 4, which may come; without "has not moved" it is refused over labels
    ∷ (answer_to (step 4 0) (visited []) gives answers Done)
    ∷ (answer_to (step 4 0) (visited (lower 4 1 ∷ [])) gives answers (Refused 25))
    -- without Kin no reader might know a different writer: reader 4 knows writer 3 of its visit, and not writer 7
    ∷ (known_to 4 (visited (send 3 4 ∷ send 7 4 ∷ [])) gives serials (0 ∷ 2 ∷ 3 ∷ 4 ∷ []))
    ∷ []
