-- What the code of crates reader and policies gives on its way: a row of so many items, filled one by one.
-- Not to be believed: the contracts of read_plan and read_policy do not name it.
use Rattle.std.specs.Prelude.{ℕ, zero, suc, ◌+◌, List, [], ◌∷◌, set, replicate}
use Rattle.plan.specs.declared.Template.{Template}
use Rattle.plan.specs.Plan.{blank}
use Rattle.text.specs.Reading.{Reader, Entry, entry}

-- So many items more, each put into the row at its place; what one is read from goes on to the next.
unfoldable pub filled : {S I A : Type 0} → (S → Reader I) → (S → I → S) → (I → A) → S → ℕ → List A → ℕ → Reader (List A)
filled read next put s i row zero c = record { value = row; next = c }
filled read next put s i row (suc more) c =
    let e = read s c in
    filled read next put (next s e.value) (i + 1) (set row i (put e.value)) more e.next

-- After a template its name stood.
abbrev pub stood_then : List (List ℕ) → Entry → List (List ℕ)
stood_then stood e = e.name ∷ stood

abbrev pub template_row : ℕ → ℕ → Reader (List Template)
template_row N M = filled (entry N M) stood_then (λ e. e.template) [] 0 (replicate 64 blank) N
