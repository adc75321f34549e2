-- Reading the plan and the policy, line by line (document 01, "The two texts" and "Reading").
-- A reader goes from a cursor to a value and the next cursor. Once a line is refused no later line is looked at.
-- Believed: everything here. Proved against it: crates text, entries, reader and policies.
use Prim.Native.{Nat.{ℕ, zero, suc, ◌+◌, ◌-◌}, String.{String}}
use mathlib.Core.{Bool.{false, cond, ◌&&◌}, List.{List, [], ◌∷◌, ◌++◌}}
use lib.{Dec.{leb, ltb}, ListN.{length, take, drop, replicate}}
use Rattle.plan.specs.declared.{Form.TheVariants.{End}, Template.{Template}, Plan.{Plan}, Kind.TheVariants.{Secrecy}}
use Rattle.plan.specs.declared.{Assertion.{Assertion}, Policy.{Policy}}
use Rattle.plan.specs.Plan.{blank, blank_assertion}
use Rattle.scan.specs.Bytes.{bytes, before, starts_with}
use Rattle.field.specs.Fields.{Field, is, bad, and_then, number, template_number, mask, name, form, risk, kind, declass}

-- "Each text at most 16,384 bytes."
abbrev pub longest : ℕ
longest = 16384

-- A text is read whole, or refused with a number and a line.
pub record Refusal : Type 0 where
  pub number : ℕ
  pub line : ℕ

pub data Reading : Type 0 where
  Complete : Reading
  Refused : Refusal → Reading

-- A refused text hands back the blank plan,
pub record PlanRead : Type 0 where
  pub answer : Reading
  pub plan : Plan

-- or the blank policy.
pub record PolicyRead : Type 0 where
  pub answer : Reading
  pub policy : Policy

-- Where reading stands: the rest of the text and the number of its first line; or the refusal's number and line.
pub data Cursor : Type 0 where
  on : List ℕ → ℕ → Cursor
  stopped : ℕ → ℕ → Cursor

pub record Step (A : Type 0) : Type 0 where
  pub value : A
  pub next : Cursor

abbrev pub Reader : Type 0 → Type 0
Reader A = Cursor → Step A

abbrev pub ◌>>=◌ : {A B : Type 0} → Reader A → (A → Reader B) → Reader B
◌>>=◌ reader next cursor = next (reader cursor).value (reader cursor).next

abbrev pub give : {A : Type 0} → A → Reader A
give v cursor = record { value = v; next = cursor }

-- The rest of the first line after its key, without byte 10: "each line ended by byte 10", "a reader compares each key
-- and the equals sign byte for byte". 2: the line is missing, has no byte 10 or begins otherwise.
unfoldable pub after_key : List ℕ → List ℕ → Field (List ℕ)
after_key key text =
    cond (ltb (before 10 text) (length text) && starts_with key (take (before 10 text) text))
    (is (drop (length key) (take (before 10 text) text))) (bad 2)

-- The next cursor stands after byte 10, on the next line; or reading stops on this one.
unfoldable pub settle : {A : Type 0} → A → List ℕ → ℕ → Field A → Step A
settle empty text k (is v) = record { value = v; next = on (drop (before 10 text + 1) text) (k + 1) }
settle empty text k (bad n) = record { value = empty; next = stopped n k }

-- One line: its key, and its field read by the given reader of fields. What comes of no line is empty.
unfoldable pub line : {A : Type 0} → A → String → (List ℕ → Field A) → Reader A
line empty key read (on text k) = settle empty text k (and_then (after_key (bytes key) text) read)
line empty key read (stopped n k) = record { value = empty; next = stopped n k }

-- How many lines a template has; so too plan_header, assertion_lines and policy_header below. Show.antt counts with them, and the
-- laws of proofs/Passed.antt tie them to the readers.
abbrev pub template_lines : ℕ
template_lines = 7

pub record Entry : Type 0 where
  pub name : List ℕ
  pub template : Template

-- "For templates 0 to N-1 seven lines in this order"; the masks "8 digits each, over identifiers".
unfoldable pub entry : ℕ → ℕ → List (List ℕ) → Reader Entry
entry N M stood = do
  n ← line [] "name=" (name stood)
  f ← line End "form=" (form N)
  l ← line 0 "lab=" (mask 8 M)
  p ← line 0 "pos=" (mask 8 M)
  g ← line 0 "neg=" (mask 8 M)
  c ← line 0 "creates=" (mask 8 M)
  r ← line false "risk=" risk
  give (record { name = n; template = record { form = f; lab = l; pos = p; neg = g; creates = c; risk = r } })

-- So many templates more, after those whose names stood.
unfoldable pub entries : ℕ → ℕ → List (List ℕ) → ℕ → Reader (List Template)
entries N M stood zero = give []
entries N M stood (suc more) = do
  e ← entry N M stood
  rest ← entries N M (e.name ∷ stood) more
  give (e.template ∷ rest)

abbrev pub plan_header : ℕ
plan_header = 2

-- "`templates=` N (1 to 64), `identifiers=` M (0 to 32)", then the templates.
unfoldable pub plan : Reader Plan
plan = do
  N ← line 0 "templates=" (number 3 1 65)
  M ← line 0 "identifiers=" (number 3 0 33)
  ts ← entries N M [] N
  give (record { count = N; identifiers = M; templates = ts ++ replicate (64 - N) blank })

abbrev pub assertion_lines : ℕ
assertion_lines = 5

-- "For each five lines", over N templates.
unfoldable pub assertion : ℕ → Reader Assertion
assertion N = do
  k ← line Secrecy "kind=" kind
  s ← line 0 "source=" (template_number N)
  z ← line 0 "sink=" (template_number N)
  a ← line 0 "anc=" (template_number N)
  d ← line 0 "declass=" (declass N k s z)
  give (record { kind = k; source = s; sink = z; anc = a; declass = d })

unfoldable pub assertions : ℕ → ℕ → Reader (List Assertion)
assertions N zero = give []
assertions N (suc more) = do
  a ← assertion N
  rest ← assertions N more
  give (a ∷ rest)

abbrev pub policy_header : ℕ
policy_header = 1

-- "`assertions=` K (0 to 32)", then the assertions.
unfoldable pub policy : ℕ → Reader Policy
policy N = do
  K ← line 0 "assertions=" (number 3 0 33)
  as' ← assertions N K
  give (record { count = K; assertions = as' ++ replicate (32 - K) blank_assertion })

-- Nothing may follow the last line: 2, an extra line.
unfoldable pub closed : Cursor → Reading
closed (on [] k) = Complete
closed (on (b ∷ text) k) = Refused (record { number = 2; line = k })
closed (stopped n k) = Refused (record { number = n; line = k })

-- "1: the text is too long (line 0)."
unfoldable pub checked : List ℕ → Cursor → Reading
checked text end = cond (leb (length text) longest) (closed end) (Refused (record { number = 1; line = 0 }))

-- What a refused text hands back.
abbrev pub no_plan : Plan
no_plan = record { count = 0; identifiers = 0; templates = replicate 64 blank }

abbrev pub no_policy : Policy
no_policy = record { count = 0; assertions = replicate 32 blank_assertion }

unfoldable pub if_complete : {A : Type 0} → Reading → A → A → A
if_complete Complete whole none = whole
if_complete (Refused r) whole none = none

-- The plan text read, first line 1.
unfoldable pub read_plan : List ℕ → PlanRead
read_plan text =
    let answer = checked text (plan (on text 1)).next in
    record { answer = answer; plan = if_complete answer (plan (on text 1)).value no_plan }

-- The policy text read, over the N templates of the plan.
unfoldable pub read_policy : ℕ → List ℕ → PolicyRead
read_policy N text =
    let answer = checked text (policy N (on text 1)).next in
    record { answer = answer; policy = if_complete answer (policy N (on text 1)).value no_policy }
