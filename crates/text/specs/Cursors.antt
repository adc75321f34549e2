-- What reading in the code stands for: where it stands, a line opened, and a line read.
-- Not to be believed: the contracts of read_plan and read_policy do not name them.
use Rattle.std.specs.Prelude.{◌≡◌, ℕ, ◌+◌, Bool, true, false, cond, ◌&&◌, List, leb, ltb, length, take, drop, Option, Some, None, Result, Ok, Err}
use denote.Ref.{Bor}
use Rattle.scan.specs.Bytes.{before, starts_with}
use Rattle.field.specs.Fields.{Field, is, bad}
use Rattle.field.specs.Answers.{numbered}
use Rattle.field.specs.declared.Refusal.{Refusal as Reason}
use Rattle.field.specs.declared.Refusal.TheVariants.{TooLong}
use Rattle.text.specs.Reading.{longest, Cursor, on, stopped, Step, Reader}
use Rattle.text.specs.declared.Refused.{Refused as RefusedLine}
use Rattle.text.specs.declared.Lines.{Lines}

-- ---- positions

abbrev pub standing : Lines → Cursor
standing lines = on lines.rest.now lines.line

-- Reading stopped at that line.
abbrev pub stopped_at : RefusedLine → Cursor
stopped_at r = stopped (numbered r.refusal) r.line

unfoldable pub Started : List ℕ → Result Lines RefusedLine → Type 0
Started text (Ok lines) = (leb (length text) longest ≡ true) × (standing lines ≡ on text 1)
Started text (Err r) = (leb (length text) longest ≡ false) × (r ≡ record { refusal = TooLong; line = 0 })

-- What a reader of the code gives, and where it stands then; once a line is refused, no later answer uses its value.
unfoldable pub Gives : {A B : Type 0} → (A → B) → Step B → Cursor → Result A RefusedLine → Type 0
Gives view step next (Ok v) = step ≡ record { value = view v; next = next }
Gives view step next (Err r) = step.next ≡ stopped_at r

-- ---- a line in two steps: its field found, and read

-- The first line begins with its key.
abbrev pub begins : List ℕ → List ℕ → Bool
begins key text = ltb (before 10 text) (length text) && starts_with key (take (before 10 text) text)

-- A line that has its key: its field, the text after it and its number. Or where reading stands without it.
pub data Opened : Type 0 where
  found : List ℕ → List ℕ → ℕ → Opened
  gone : Cursor → Opened

unfoldable pub opened : List ℕ → Cursor → Opened
opened key (on text k) =
    cond (begins key text)
    (found (drop (length key) (take (before 10 text) text)) (drop (before 10 text + 1) text) k)
    (gone (stopped 2 k))
opened key (stopped n k) = gone (stopped n k)

unfoldable pub settled : {A : Type 0} → A → List ℕ → ℕ → Field A → Step A
settled empty rest k (is v) = record { value = v; next = on rest (k + 1) }
settled empty rest k (bad n) = record { value = empty; next = stopped n k }

unfoldable pub after : {A : Type 0} → A → (List ℕ → Field A) → Opened → Step A
after empty read (found s rest k) = settled empty rest k (read s)
after empty read (gone c) = record { value = empty; next = c }

-- The definition's `line`, with the bytes of its key.
unfoldable pub keyed : {A : Type 0} → A → List ℕ → (List ℕ → Field A) → Reader A
keyed empty key read c = after empty read (opened key c)

-- A line opened by the code, of that number.
unfoldable pub opened_of : ℕ → Option (Bor (List ℕ) × Lines) → Opened
opened_of k (Some (field, next)) = found field.now next.rest.now k
opened_of k None = gone (stopped 2 k)

-- A field's answer is the line's; after a value reading stands on the next line.
unfoldable pub Settled : {A : Type 0} → Result A Reason → List ℕ → ℕ → Cursor → Result A RefusedLine → Type 0
Settled (Ok v) rest k next r = (r ≡ Ok v) × (next ≡ on rest (k + 1))
Settled (Err e) rest k next r = r ≡ Err (record { refusal = e; line = k })

-- The line's answer, by what the field's reader may give.
unfoldable pub Answered : {A : Type 0} → (List ℕ → Result A Reason → Type 0) → Opened → Cursor → Result A RefusedLine → Type 0
Answered {A} Read (found s rest k) next r = (x : Result A Reason) × Read s x × Settled x rest k next r
Answered Read (gone c) next r = (e : RefusedLine) × (r ≡ Err e) × (c ≡ stopped_at e)

-- A field's answer of the code, its value seen as the definition's.
abbrev pub seen : {A B : Type 0} → (A → B) → Result A Reason → Field B
seen view (Ok v) = is (view v)
seen view (Err r) = bad (numbered r)
