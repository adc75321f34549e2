-- What the functions that write a part leave, and the bytes of a line by its parts.
-- Not to be believed: what is written is held to `printed` of rules/specs/Judge.antt.
use Rattle.std.specs.Prelude.{ℕ, ◌+◌, ◌≡◌, List, [], ◌∷◌, ◌++◌, length}
use Rattle.std.proofs.lemmas.List.Edits.{sets}
use Rattle.scan.specs.Bytes.{bytes}
use Rattle.numerals.specs.Numerals.{decimal_of}
use Rattle.rules.specs.declared.Text.{Text}
use Rattle.rules.specs.Judge.{text_number, text_name}

-- A part is put into xs from a place on: ys stands then, and r is the place after it.
pub record PutAt (xs : List ℕ) (at : ℕ) (part ys : List ℕ) (r : ℕ) : Type 0 where
  pub next : r ≡ at + length part
  pub left : ys ≡ sets xs at part

-- A key, with its equals sign, and a number.
unfoldable pub figure_line : List ℕ → ℕ → List ℕ
figure_line key n = key ++ decimal_of n ++ 10 ∷ []

unfoldable pub text_line : Text → List ℕ
text_line text = bytes "text=" ++ bytes (text_name (text_number text)) ++ 10 ∷ []
