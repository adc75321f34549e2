-- An entry, its mask lines taken as one.
use Prim.Native.{Nat.{ℕ}, String.{String}}
use mathlib.Core.Path.{◌≡◌, refl}
use mathlib.Core.Bool.{Bool, false}
use mathlib.Core.List.{List, [], ◌∷◌}
use Rattle.std.specs.Prelude.{get_or}
use Rattle.plan.specs.declared.{Form.{Form, TheVariants.{End}}, Template.{Template}}
use Rattle.field.specs.Fields.{mask, name, form, risk}
use Rattle.text.specs.Reading.{Cursor, Reader, ◌>>=◌, give, line, Entry, entry}

-- The keys of a template's mask lines, and a line for each of them.
abbrev pub mask_keys : List String
mask_keys = "lab=" ∷ "pos=" ∷ "neg=" ∷ "creates=" ∷ []

unfoldable pub mask_lines : ℕ → List String → Reader (List ℕ)
mask_lines M [] = give []
mask_lines M (key ∷ keys) = do
  m ← line 0 key (mask 8 M)
  rest ← mask_lines M keys
  give (m ∷ rest)

-- The template of that form, with those masks.
abbrev pub masked : Form → List ℕ → Bool → Template
masked f ms r = record { form = f; lab = get_or ms 0 0; pos = get_or ms 1 0; neg = get_or ms 2 0; creates = get_or ms 3 0; risk = r }

unfoldable pub entry_lines : ℕ → ℕ → List (List ℕ) → Reader Entry
entry_lines N M stood = do
  n ← line [] "name=" (name stood)
  f ← line End "form=" (form N)
  ms ← mask_lines M mask_keys
  r ← line false "risk=" risk
  give (record { name = n; template = masked f ms r })

pub entry_same : (N M : ℕ) (stood : List (List ℕ)) (c : Cursor) → entry_lines N M stood c ≡ entry N M stood c
unfolding entry entry_lines mask_lines
entry_same N M stood c = refl
