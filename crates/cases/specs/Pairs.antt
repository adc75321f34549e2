-- A second plan, and what histories of its calls tell: each desk starts a writer and a reader that share its tag, and a clerk
-- becomes the next desk. A prot asks that a writer reaches the reader of its own desk; a secrecy, that a clerk knows no writer. The
-- reader is at risk and may take the tag off and put it on, so it is at the secrecy's Declass, as is the desk that hands it this.
-- Each row is worked out by hand from document 01, "Kin and flow". Not to be believed: the rows hold, by computation.
use Rattle.std.specs.Prelude.{ℕ}
use Prim.Native.String.{String}
use mathlib.Core.{List.{List, [], ◌∷◌, ◌++◌}, Option.{none, some}}
use Rattle.rules.specs.{declared.Verdict.TheVariants.{Accepted}, Judge.{broken}}
use Rattle.machine.specs.declared.Answer.TheVariants.{Done, Delivered, Held, Refused}
use Rattle.machine.specs.Machine.{Call, step, send, raise, lower}
use Rattle.promise.specs.History.{World}
use Rattle.cases.specs.Base.{boot, changing, asserting}
use Rattle.cases.specs.Histories.{world_for, Row, ◌gives◌}
use Rattle.cases.specs.Histories.{verdict_on, living, movers, nearest_to, known_to, answer_to, judged, serials, found, answers}

unfoldable pub pair_plan : List String
pair_plan =
    "templates=5" ∷ "identifiers=1"
    ∷ "name=boot" ∷ "form=both:1,4" ∷ "lab=00000000" ∷ "pos=00000000" ∷ "neg=00000000" ∷ "creates=00000000" ∷ "risk=0"
    ∷ "name=desk" ∷ "form=both:2,3" ∷ "lab=00000001" ∷ "pos=00000001" ∷ "neg=00000001" ∷ "creates=00000001" ∷ "risk=0"
    ∷ "name=writer" ∷ "form=end" ∷ "lab=00000001" ∷ "pos=00000000" ∷ "neg=00000000" ∷ "creates=00000000" ∷ "risk=0"
    ∷ "name=reader" ∷ "form=end" ∷ "lab=00000001" ∷ "pos=00000001" ∷ "neg=00000001" ∷ "creates=00000000" ∷ "risk=1"
    ∷ "name=clerk" ∷ "form=go:1" ∷ "lab=00000000" ∷ "pos=00000000" ∷ "neg=00000000" ∷ "creates=00000000" ∷ "risk=0"
    ∷ []

-- Its templates by name; boot is 0, as in the base plan, and a reader 3.
abbrev pub desk : ℕ
desk = 1

abbrev pub clerk : ℕ
clerk = 4

unfoldable pub pair_policy : List String
pair_policy =
    "assertions=2"
    ∷ "kind=secrecy" ∷ "source=2" ∷ "sink=4" ∷ "anc=1" ∷ "declass=000000000000000a"
    ∷ "kind=prot" ∷ "source=2" ∷ "sink=3" ∷ "anc=1" ∷ "declass=0000000000000000" ∷ []

-- For the Declass of the secrecy; and for that of the prot, which has none.
abbrev in_pairs : List Call → World
in_pairs = world_for pair_plan pair_policy 0

abbrev pub in_open_pairs : List Call → World
in_open_pairs = world_for pair_plan pair_policy 1

-- In the box of pairs: desk 1 starts writer 3 and reader 4 beside clerk 2; then the clerk becomes desk 5, which starts 6 and 7.
abbrev pub one_pair : List Call
one_pair = step 0 0 ∷ step 1 0 ∷ []

abbrev two_pairs : List Call
two_pairs = one_pair ++ (step 2 0 ∷ step 5 0 ∷ [])

-- After more calls, in a box of pairs whose reader begins without the tag; and in one whose reader becomes a writer.
abbrev bare_then : List Call → World
bare_then more = world_for (changing 3 "lab=00000000" pair_plan) pair_policy 0 (one_pair ++ more)

abbrev onward_then : List Call → World
onward_then more = world_for (changing 3 "form=go:2" pair_plan) pair_policy 0 (one_pair ++ more)

-- The reader passes on what it heard: it takes the tag off and sends to the clerk.
abbrev leak : List Call
leak = one_pair ++ (send 3 4 ∷ lower 4 0 ∷ send 4 2 ∷ [])

unfoldable pub pair_rows : List Row
pair_rows =
    -- both texts are accepted; with the prot under boot a writer and another desk's reader are kin too, whose tags differ
    (verdict_on pair_plan pair_policy gives judged Accepted)
    ∷ (verdict_on pair_plan (asserting 1 "anc=0" pair_policy) gives judged (broken 19 1 3 0))
    -- writer 3 and reader 4 live, are kin under desk, and have not moved: the prot's send is delivered
    ∷ (living (in_pairs one_pair) gives serials (2 ∷ 3 ∷ 4 ∷ []))
    ∷ (nearest_to 3 desk (in_pairs one_pair) gives found (some 1)) ∷ (nearest_to 4 desk (in_pairs one_pair) gives found (some 1))
    ∷ (movers (in_pairs one_pair) gives serials []) ∷ (answer_to (send 3 4) (in_pairs one_pair) gives answers Delivered)
    -- a refused move (28) and an accepted one that changes nothing mark nobody, and the send is delivered as before
    ∷ (answer_to (raise 3 0) (in_pairs one_pair) gives answers (Refused 28))
    ∷ (movers (in_pairs (one_pair ++ (raise 3 0 ∷ []))) gives serials [])
    ∷ (answer_to (raise 4 0) (in_pairs one_pair) gives answers Done)
    ∷ (movers (in_pairs (one_pair ++ (raise 4 0 ∷ []))) gives serials [])
    ∷ (answer_to (send 3 4) (in_pairs (one_pair ++ (raise 4 0 ∷ []))) gives answers Delivered)
    -- one that changes the label marks its process alone, and the same send is held
    ∷ (answer_to (lower 4 0) (in_pairs one_pair) gives answers Done)
    ∷ (movers (in_pairs (one_pair ++ (lower 4 0 ∷ []))) gives serials (4 ∷ []))
    ∷ (answer_to (send 3 4) (in_pairs (one_pair ++ (lower 4 0 ∷ []))) gives answers Held)
    -- "once": the label put back (the send is delivered again), a move that changes nothing, a delivery, its step leave the mark
    ∷ (answer_to (send 3 4) (in_pairs (one_pair ++ (lower 4 0 ∷ raise 4 0 ∷ []))) gives answers Delivered)
    ∷ (movers (in_pairs (one_pair ++ (lower 4 0 ∷ raise 4 0 ∷ raise 4 0 ∷ send 3 4 ∷ step 4 0 ∷ []))) gives serials (4 ∷ []))
    -- a lower that changes nothing marks nobody, and a raise that changes the label marks its process
    ∷ (answer_to (lower 4 0) (bare_then []) gives answers Done) ∷ (movers (bare_then (lower 4 0 ∷ [])) gives serials [])
    ∷ (movers (bare_then (raise 4 0 ∷ [])) gives serials (4 ∷ []))
    -- "its own label": the child of a process that moved has not moved
    ∷ (movers (onward_then (lower 4 0 ∷ raise 4 0 ∷ step 4 0 ∷ [])) gives serials (4 ∷ []))
    -- the second pair are kin under their own desk, all four under boot; a writer and the other desk's reader are not under desk
    ∷ (living (in_pairs two_pairs) gives serials (3 ∷ 4 ∷ 6 ∷ 7 ∷ []))
    ∷ (nearest_to 6 desk (in_pairs two_pairs) gives found (some 5)) ∷ (nearest_to 7 desk (in_pairs two_pairs) gives found (some 5))
    ∷ (nearest_to 3 boot (in_pairs two_pairs) gives found (some 0)) ∷ (nearest_to 7 boot (in_pairs two_pairs) gives found (some 0))
    ∷ (nearest_to 7 clerk (in_pairs two_pairs) gives found (some 2)) ∷ (nearest_to 3 clerk (in_pairs two_pairs) gives found none)
    ∷ (answer_to (send 6 7) (in_pairs two_pairs) gives answers Delivered) ∷ (answer_to (send 3 7) (in_pairs two_pairs) gives answers Held)
    -- a Declass process learns nothing by a delivery: 4 hears 3, and the clerk learns 4 alone from it
    ∷ (known_to 4 (in_pairs (one_pair ++ (send 3 4 ∷ []))) gives serials (4 ∷ []))
    ∷ (known_to 2 (in_pairs leak) gives serials (0 ∷ 2 ∷ 4 ∷ []))
    ∷ (known_to 5 (in_pairs (leak ++ (step 2 0 ∷ []))) gives serials (5 ∷ []))
    -- where nobody is at Declass the same calls tell the clerk, and its child, of the writer
    ∷ (known_to 4 (in_open_pairs (one_pair ++ (send 3 4 ∷ []))) gives serials (0 ∷ 1 ∷ 3 ∷ 4 ∷ []))
    ∷ (known_to 2 (in_open_pairs leak) gives serials (0 ∷ 1 ∷ 2 ∷ 3 ∷ 4 ∷ []))
    ∷ (known_to 5 (in_open_pairs (leak ++ (step 2 0 ∷ []))) gives serials (0 ∷ 1 ∷ 2 ∷ 3 ∷ 4 ∷ 5 ∷ []))
    ∷ []
