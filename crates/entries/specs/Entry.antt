-- What the code of crate entries gives on its way: the names that it is lent, and an entry.
-- Not to be believed: the contract of read_plan does not name them.
use denote.Ref.{Bor}
use Rattle.std.specs.Prelude.{ℕ, List, [], ◌∷◌, ◌++◌}
use Rattle.plan.specs.declared.Template.{Template}
use Rattle.text.specs.Reading.{Entry}

-- The names lent, the last first.
unfoldable pub latest : List (Bor (List ℕ)) → List (List ℕ)
latest [] = []
latest (name ∷ names) = latest names ++ (name.now ∷ [])

abbrev pub entry_of : Bor (List ℕ) × Template → Entry
entry_of (name, template) = record { name = name.now; template = template }
