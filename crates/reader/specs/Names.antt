-- The names of a plan's templates, in the order of the text. The plan itself does not keep them; that they differ (document
-- 01, number 5) and on which line each stands are laws of crate reader.
-- Not to be believed: the contract of read_plan does not name them.
use Rattle.std.specs.Prelude.{ℕ, zero, suc, ◌<◌, ◌≢◌, List, [], ◌∷◌, length, get_or}
use Rattle.field.specs.Fields.{number}
use Rattle.text.specs.Reading.{Cursor, on, line, entry}

unfoldable pub names : ℕ → ℕ → List (List ℕ) → ℕ → Cursor → List (List ℕ)
names N M stood zero c = []
names N M stood (suc more) c =
    let e = entry N M stood c in
    e.value.name ∷ names N M (e.value.name ∷ stood) more e.next

unfoldable pub plan_names : List ℕ → List (List ℕ)
plan_names text =
    let N = line 0 "templates=" (number 3 1 65) (on text 1) in
    let M = line 0 "identifiers=" (number 3 0 33) N.next in
    names N.value M.value [] N.value M.next

-- No two of the names are the same.
abbrev pub Distinct : List (List ℕ) → Type 0
Distinct l = (i j : ℕ) → i < j → j < length l → get_or l i [] ≢ get_or l j []
