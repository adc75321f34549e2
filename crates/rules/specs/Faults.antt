-- Where a faulty line begins, in the words of reading (document 01, "Reading" and "Showing").
-- Not to be believed: the laws of proofs/Faults.antt say that the shown part of Show.antt begins there.
use Rattle.std.specs.Prelude.{ℕ, suc, ◌<◌, ◌≡◌, ◌⊎◌, List, [], ◌∷◌, ◌++◌, length, take}
use Rattle.scan.specs.Bytes.{before}
use Rattle.text.specs.Reading.{longest, Refusal, Reading, Complete, Refused}

-- So many lines, "each line ended by byte 10".
pub data Lines : ℕ → List ℕ → Type 0 where
  no_line : Lines 0 []
  one_line : {n : ℕ} {rest : List ℕ} (first : List ℕ) → before 10 first ≡ length first → Lines n rest → Lines (suc n) (first ++ (10 ∷ rest))

-- A text was refused, and s is where reading stood: before it are all lines before the refused one, and they read well. Cut there,
-- the text is refused because that very line is missing; or it reads whole, and the line was "extra".
pub record Stood (answer : List ℕ → Reading) (text : List ℕ) (s : ℕ) (r : Refusal) : Type 0 where
  pub passed : ℕ
  pub next : r.line ≡ suc passed
  pub lines : Lines passed (take s text)
  pub lacks : (answer (take s text) ≡ Refused (record { number = 2; line = r.line })) ⊎ ((answer (take s text) ≡ Complete) × (r.number ≡ 2))

-- "1: the text is too long (line 0)."
abbrev pub too_long : Refusal
too_long = record { number = 1; line = 0 }

abbrev pub TooLong : List ℕ → Refusal → Type 0
TooLong text r = (longest < length text) × (r ≡ too_long)
