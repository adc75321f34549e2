-- Rules 11 to 19, and the verdict: the first broken rule in document 01's order, with its figures ("The judge"); its numbers,
-- and what `judge` prints of it.
-- Believed: everything here. Proved against it: crates offenders, creation, edges, prot, assertions and verdict; step_rules also crate admission;
-- numbers_of this crate itself; printed crates report and judging.
use Prim.Native.{Nat.{ℕ, zero, suc}, String.{String}}
use mathlib.Core.{Bool.{Bool, not, cond, ◌&&◌, ◌||◌}, List.{List, [], ◌∷◌, ◌++◌}}
use Rattle.std.specs.Prelude.{eqb, ltb, get_or}
use Rattle.lists.specs.Numbers.{every, any, lowest, all}
use Rattle.numerals.specs.Numerals.{decimal_of}
use Rattle.mask.specs.Mask.{has}
use Rattle.plan.specs.declared.{Template.{Template}, Plan.{Plan}, Kind.{Kind, TheVariants.{Secrecy, Prot}}}
use Rattle.plan.specs.declared.{Assertion.{Assertion}, Policy.{Policy}}
use Rattle.plan.specs.Plan.{at, successors, creates, assertion_at}
use Rattle.scan.specs.Bytes.{bytes}
use Rattle.route.specs.Search.{shares_tag, splits_tag}
use Rattle.text.specs.Reading.{Reading, Complete, Refused, read_plan, read_policy}
pub use Rattle.rules.specs.declared.Text.{Text, TheVariants.{Plan as PlanText, Policy as PolicyText}}
pub use Rattle.rules.specs.declared.{Fault.{Fault}, Breach.{Breach}, Verdict.{Verdict}}
pub use Rattle.rules.specs.declared.Verdict.TheVariants.{Accepted, Broken, Unread}

abbrev pub broken : ℕ → ℕ → ℕ → ℕ → Verdict
broken rule first second identifier = Broken (record { rule = rule; first = first; second = second; identifier = identifier })

-- The first of two that is not accepted.
unfoldable pub or_else : Verdict → Verdict → Verdict
or_else Accepted later = later
or_else (Broken b) later = Broken b
or_else (Unread f) later = Unread f

-- The first that is not accepted of f 0, f 1, up to f (n - 1).
unfoldable pub first_below : ℕ → (ℕ → Verdict) → Verdict
first_below zero f = Accepted
first_below (suc n) f = or_else (f zero) (first_below n (λ i. f (suc i)))

-- The same over a list.
unfoldable pub first_in : {A : Type 0} → List A → (A → Verdict) → Verdict
first_in [] f = Accepted
first_in (x ∷ rest) f = or_else (f x) (first_in rest f)

-- "The lowest identifier that breaks it", of M identifiers.
unfoldable pub lowest_offender : ℕ → ℕ → ℕ → ℕ → (ℕ → Bool) → Verdict
lowest_offender M rule first second offends =
    let i = lowest M offends in
    cond (ltb i M) (broken rule first second i) Accepted

-- 11: "an identifier is created by two templates (lowest identifier; its two lowest templates)".
unfoldable pub creator : Plan → ℕ → ℕ
creator plan t = lowest plan.count (creates plan t)

unfoldable pub next_creator : Plan → ℕ → ℕ
next_creator plan t = lowest plan.count (λ X. ltb (creator plan t) X && creates plan t X)

unfoldable pub check11 : Plan → Verdict
check11 plan =
    let t = lowest plan.identifiers (λ t. ltb (next_creator plan t) plan.count) in
    cond (ltb t plan.identifiers) (broken 11 (creator plan t) (next_creator plan t) t) Accepted

-- What identifier i does against a rule on the edge from X to Y. lab is lab X; a step asks the same of a process's
-- label in its place. Of X itself 14 and 15 ask pos and neg.
-- 12: "lab Y within lab X plus pos Y".
abbrev pub offends12 : ℕ → Template → Template → ℕ → Bool
offends12 lab X Y i = has i Y.lab && not (has i lab || has i Y.pos)

-- 13: "lab X minus neg Y within lab Y".
abbrev pub offends13 : ℕ → Template → Template → ℕ → Bool
offends13 lab X Y i = (has i lab && not (has i Y.neg)) && not (has i Y.lab)

-- 14: "pos Y within pos X plus creates Y".
abbrev pub offends14 : ℕ → Template → Template → ℕ → Bool
offends14 lab X Y i = has i Y.pos && not (has i X.pos || has i Y.creates)

-- 15: "neg Y within neg X plus creates Y".
abbrev pub offends15 : ℕ → Template → Template → ℕ → Bool
offends15 lab X Y i = has i Y.neg && not (has i X.neg || has i Y.creates)

-- 16: "creates Y and lab X share nothing".
abbrev pub offends16 : ℕ → Template → Template → ℕ → Bool
offends16 lab X Y i = has i Y.creates && has i lab

-- A row of the table: the rule's number and its test.
pub record EdgeRule : Type 0 where
  pub number : ℕ
  pub offends : ℕ → Template → Template → ℕ → Bool

abbrev row : ℕ → (ℕ → Template → Template → ℕ → Bool) → EdgeRule
row number offends = record { number = number; offends = offends }

-- "12 to 16"; and "rules 12, 13, 16", which a step asks: the law `step_rows` says that these are rows of the table.
unfoldable pub edge_rules : List EdgeRule
edge_rules = row 12 offends12 ∷ row 13 offends13 ∷ row 14 offends14 ∷ row 15 offends15 ∷ row 16 offends16 ∷ []

unfoldable pub step_rules : List EdgeRule
step_rules = row 12 offends12 ∷ row 13 offends13 ∷ row 16 offends16 ∷ []

-- Some row has that number.
unfoldable pub is_edge_rule : ℕ → Bool
is_edge_rule number = not (all (λ (r : EdgeRule). not (eqb number r.number)) edge_rules)

-- "Each tested 12 to 16."
unfoldable pub check_edge : Plan → ℕ → ℕ → Verdict
check_edge plan X Y =
    first_in edge_rules (λ r. lowest_offender plan.identifiers r.number X Y (r.offends (at plan X).lab (at plan X) (at plan Y)))

-- "Edges X to Y, X rising, in form order"; "all edges count, also of templates no route reaches".
unfoldable pub check_edges : Plan → Verdict
check_edges plan = first_below plan.count (λ X. first_in (successors (at plan X).form) (check_edge plan X))

-- t is "in lab Sink (with pos Sink added if Sink is at risk)".
unfoldable pub wearable : Plan → ℕ → ℕ → Bool
wearable plan X t = has t (at plan X).lab || ((at plan X).risk && has t (at plan X).pos)

-- 17: t "lies in lab Source, in no neg of a template outside Declass, and either not in lab Sink [..] or not Joined".
unfoldable pub serves : Plan → Assertion → ℕ → Bool
serves plan a t =
    has t (at plan a.source).lab
    && (every plan.count (λ X. has X a.declass || not (has t (at plan X).neg))
    && (not (wearable plan a.sink t) || not (shares_tag plan t a.source a.sink a.anc)))

-- "For prot, identifiers of lab Source rising: 18 if not in lab Sink, else 19 if Parted": at identifier t.
unfoldable pub check_prot : Plan → ℕ → Assertion → ℕ → Verdict
check_prot plan place a t =
    cond (has t (at plan a.source).lab)
    (cond (has t (at plan a.sink).lab)
    (cond (splits_tag plan t a.source a.sink a.anc) (broken 19 place a.sink t) Accepted)
    (broken 18 place a.sink t))
    Accepted

-- "First being its place from 0, second its sink"; of 17 the "identifier reads 255".
unfoldable pub check_assertion : Plan → ℕ → Assertion → Kind → Verdict
check_assertion plan place a Secrecy = cond (any plan.identifiers (serves plan a)) Accepted (broken 17 place a.sink 255)
check_assertion plan place a Prot = first_below plan.identifiers (check_prot plan place a)

unfoldable pub check_assertions : Plan → Policy → Verdict
check_assertions plan policy =
    first_below policy.count (λ i. check_assertion plan i (assertion_at policy i) (assertion_at policy i).kind)

-- 11, then the edges, then the assertions.
unfoldable pub judge_read : Plan → Policy → Verdict
judge_read plan policy = or_else (check11 plan) (or_else (check_edges plan) (check_assertions plan policy))

-- "The plan is read first; the policy only if the plan reads."
unfoldable pub after_reading : Text → Reading → Verdict → Verdict
after_reading text Complete verdict = verdict
after_reading text (Refused r) verdict = Unread (record { text = text; number = r.number; line = r.line })

unfoldable pub judge : List ℕ → List ℕ → Verdict
judge plan_text policy_text =
    let plan = read_plan plan_text in
    let policy = read_policy plan.plan.count policy_text in
    after_reading PlanText plan.answer (after_reading PolicyText policy.answer (judge_read plan.plan policy.policy))

-- "For an answer that is an enum, a definition gives this paper's number and values for each of its cases": of a text, and
-- of a verdict its kind (0 accepted, 1 broken, 2 unread), then its figures in the paper's order.
unfoldable pub text_number : Text → ℕ
text_number PlanText = 0
text_number PolicyText = 1

unfoldable pub numbers_of : Verdict → List ℕ
numbers_of Accepted = 0 ∷ 0 ∷ 0 ∷ 0 ∷ 0 ∷ []
numbers_of (Broken b) = 1 ∷ b.rule ∷ b.first ∷ b.second ∷ b.identifier ∷ []
numbers_of (Unread f) = 2 ∷ text_number f.text ∷ f.number ∷ f.line ∷ 0 ∷ []

-- What `judge` prints. A line is a key with a word, or a key with a number.
pub data Line : Type 0 where
  says : String → String → Line
  counts : String → ℕ → Line

abbrev pub text_name : ℕ → String
text_name zero = "plan"
text_name (suc n) = "policy"

-- "It prints `verdict=accepted`; or `verdict=unread`, `text=` plan or policy, `number=`, `line=`; or `verdict=broken`,
-- `rule=`, `first=`, `second=`, `identifier=`": by the kind and the figures.
unfoldable pub report_of : ℕ → (ℕ → ℕ) → List Line
report_of zero figure = says "verdict" "accepted" ∷ []
report_of (suc zero) figure =
    says "verdict" "broken" ∷ counts "rule" (figure 1) ∷ counts "first" (figure 2) ∷ counts "second" (figure 3)
    ∷ counts "identifier" (figure 4) ∷ []
report_of (suc (suc n)) figure =
    says "verdict" "unread" ∷ says "text" (text_name (figure 1)) ∷ counts "number" (figure 2) ∷ counts "line" (figure 3) ∷ []

unfoldable pub report : Verdict → List Line
report v = let figure : ℕ → ℕ = λ i. get_or (numbers_of v) i 0 in report_of (figure 0) figure

-- "Each on its own line in that order": the bytes of a line end with byte 10.
unfoldable pub line_bytes : Line → List ℕ
line_bytes (says key word) = bytes key ++ bytes "=" ++ bytes word ++ 10 ∷ []
line_bytes (counts key n) = bytes key ++ bytes "=" ++ decimal_of n ++ 10 ∷ []

unfoldable pub lines_bytes : List Line → List ℕ
lines_bytes [] = []
lines_bytes (line ∷ lines) = line_bytes line ++ lines_bytes lines

unfoldable pub printed : Verdict → List ℕ
printed v = lines_bytes (report v)
