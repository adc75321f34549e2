-- Calls on a box of another plan than the base one, each worked out by hand from document 01, "The monitor's machine": moves
-- that are accepted, tags that differ, the children of `either`, `both` and `end`; and rules 12 to 16 on one edge, from "The
-- judge". They pin what cases a to m do not reach.
use Rattle.std.specs.Prelude.{ℕ}
use mathlib.Core.{Bool.{Bool, true, false}, List.{List, [], ◌∷◌}}
use Rattle.plan.specs.declared.{Form.{Form, TheVariants.{End, Go, Either, Both}}, Template.{Template}, Plan.{Plan}}
use Rattle.rules.specs.declared.Verdict.{Verdict, TheVariants.{Accepted}}
use Rattle.rules.specs.Judge.{broken, check_edges}
use Rattle.machine.specs.Machine.{Process, Machine, Outcome, box_limits, may_become, run}
use Rattle.machine.specs.State.{call_of, code_of}

abbrev template : Form → ℕ → ℕ → ℕ → ℕ → Bool → Template
template form lab pos neg creates risk = record { form = form; lab = lab; pos = pos; neg = neg; creates = creates; risk = risk }

-- Identifier 1 is made by templates 1 and 3; templates 0, 2 and 3 are at risk.
abbrev pub two_tags : Plan
two_tags = record {
  count = 5;
  identifiers = 2;
  templates =
      template (Either 1 2) 1 2 1 0 true ∷ template (Both 3 4) 1 0 0 2 false ∷ template (Go 0) 0 1 3 0 true
      ∷ template End 3 2 0 2 true ∷ template (Go 0) 1 0 0 0 false ∷ [];
}

abbrev pub process : ℕ → ℕ → ℕ → ℕ → ℕ → Process
process serial X label a b = record { serial = serial; template = X; label = label; tags = a ∷ b ∷ [] }

abbrev pub p3 : ℕ → Process
p3 label = process 3 0 label 0 5

abbrev pub p8 : ℕ → Process
p8 label = process 8 2 label 2 5

abbrev pub p4 : Process
p4 = process 4 0 1 2 5

abbrev pub p6 : Process
p6 = process 6 1 1 2 7

abbrev pub p9 : Process
p9 = process 9 3 3 2 9

abbrev pub five : List Process
five = p3 1 ∷ p4 ∷ p6 ∷ p8 2 ∷ p9 ∷ []

-- A call's three words; its answer as a number, the next serial and who lives after it.
pub record Figure : Type 0 where
  pub kind : ℕ
  pub x : ℕ
  pub y : ℕ
  pub code : ℕ
  pub next : ℕ
  pub live : List Process

abbrev row : ℕ → ℕ → ℕ → ℕ → ℕ → List Process → Figure
row kind x y code next live = record { kind = kind; x = x; y = y; code = code; next = next; live = live }

-- What the machine gives for the words of a row.
unfoldable pub computed : Figure → Figure
computed f =
    let o : Outcome = run box_limits (record { plan = two_tags; next = 10; live = five }) (call_of f.kind f.x f.y) in
    row f.kind f.x f.y (code_of o.answer) o.machine.next o.machine.live

unfoldable pub figures : List Figure
figures =
    -- send: equal labels and other tags are held; a tag that no label has does not matter
    row 1 3 4 2 10 five ∷ row 1 4 6 1 10 five ∷ row 1 6 9 1 10 five ∷ row 1 9 6 2 10 five ∷ row 1 8 9 2 10 five
    ∷ row 1 5 5 21 10 five ∷ row 1 3 3 26 10 five
    -- raise: in pos; not in pos; no identifier; not at risk; one that it has already
    ∷ row 2 3 1 0 10 (p3 3 ∷ p4 ∷ p6 ∷ p8 2 ∷ p9 ∷ []) ∷ row 2 3 0 29 10 five ∷ row 2 6 2 27 10 five ∷ row 2 6 0 28 10 five
    ∷ row 2 9 1 0 10 five ∷ row 2 5 7 21 10 five
    -- lower: in neg; not in neg; any kind from 3 on
    ∷ row 3 3 0 0 10 (p3 0 ∷ p4 ∷ p6 ∷ p8 2 ∷ p9 ∷ []) ∷ row 3 3 1 29 10 five ∷ row 7 8 1 0 10 (p3 1 ∷ p4 ∷ p6 ∷ p8 0 ∷ p9 ∷ [])
    -- step: either, both branches; both; end; no such branch; over labels
    ∷ row 0 3 0 0 11 (p4 ∷ p6 ∷ p8 2 ∷ p9 ∷ process 10 1 1 0 10 ∷ []) ∷ row 0 3 1 0 11 (p4 ∷ p6 ∷ p8 2 ∷ p9 ∷ process 10 2 0 0 5 ∷ [])
    ∷ row 0 6 0 0 12 (p3 1 ∷ p4 ∷ p8 2 ∷ p9 ∷ process 10 3 3 2 10 ∷ process 11 4 1 2 7 ∷ []) ∷ row 0 9 0 0 10 (p3 1 ∷ p4 ∷ p6 ∷ p8 2 ∷ [])
    ∷ row 0 3 2 22 10 five ∷ row 0 8 0 25 10 five ∷ []

-- One edge, from template 0 to template 1, over two identifiers; what the judge finds on it, and whether a process at
-- template 0 of some label may become one at template 1.
pub record EdgeFigure : Type 0 where
  pub x : Template
  pub y : Template
  pub verdict : Verdict
  pub label : ℕ
  pub may : Bool

abbrev edge : Template → Template → Verdict → ℕ → Bool → EdgeFigure
edge x y verdict label may = record { x = x; y = y; verdict = verdict; label = label; may = may }

abbrev from : ℕ → ℕ → ℕ → ℕ → Template
from lab pos neg creates = template (Go 1) lab pos neg creates false

abbrev to : ℕ → ℕ → ℕ → ℕ → Template
to lab pos neg creates = template End lab pos neg creates false

-- What the judge and the machine give for the templates and the label of a row.
unfoldable pub computed_edge : EdgeFigure → EdgeFigure
computed_edge f =
    let plan : Plan = record { count = 2; identifiers = 2; templates = f.x ∷ f.y ∷ [] } in
    edge f.x f.y (check_edges plan) f.label (may_become plan f.label 0 1)

unfoldable pub edge_figures : List EdgeFigure
edge_figures =
    -- each rule alone: 13 by the child's neg, 14 and 15 by the child's creates; a step asks 12, 13 and 16
    edge (from 0 0 0 0) (to 2 0 0 0) (broken 12 0 1 1) 0 false
    ∷ edge (from 2 0 2 0) (to 0 0 0 0) (broken 13 0 1 1) 2 false
    ∷ edge (from 0 0 0 2) (to 0 2 0 0) (broken 14 0 1 1) 0 true
    ∷ edge (from 0 2 0 2) (to 0 0 2 0) (broken 15 0 1 1) 0 true
    ∷ edge (from 2 0 0 0) (to 2 0 0 2) (broken 16 0 1 1) 2 false
    -- none: 12 by pos Y, 13 by neg Y, 14 by creates Y, 15 by neg X; with another label than lab X 16 alone
    ∷ edge (from 1 0 1 0) (to 2 2 1 2) Accepted 1 true ∷ edge (from 1 0 1 0) (to 2 2 1 2) Accepted 2 false
    -- the first of two rules, though the other has the lower identifier; the lowest of two identifiers
    ∷ edge (from 1 0 0 0) (to 2 0 0 0) (broken 12 0 1 1) 3 false ∷ edge (from 2 0 0 0) (to 0 1 0 0) (broken 13 0 1 1) 0 true
    ∷ edge (from 0 0 0 0) (to 0 2 1 0) (broken 14 0 1 1) 0 true ∷ edge (from 1 0 0 0) (to 1 0 2 1) (broken 15 0 1 1) 2 false
    ∷ edge (from 0 0 0 0) (to 3 0 0 0) (broken 12 0 1 0) 3 true ∷ []
