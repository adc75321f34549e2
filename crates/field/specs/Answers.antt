-- What the answers of the code that reads a field stand for: the field's value, or the number of the refusal.
-- Believed: `numbered`, which text/specs/Answers.antt names. The rest is not: no contract of read_plan or read_policy names it.
use Rattle.std.specs.Prelude.{ℕ, Bool, ◌&&◌, List, leb, ltb, length, Result, Ok, Err, Option, Some, None}
use Rattle.lists.specs.Numbers.{all}
use Rattle.field.specs.Fields.{Field, is, bad, name_byte}
use Rattle.field.specs.declared.Refusal.{Refusal}
use Rattle.field.specs.declared.Refusal.TheVariants.{TooLong, Layout, Range, Beyond, Stood, Misplaced}

-- Document 01's number of a refusal.
abbrev pub numbered : Refusal → ℕ
numbered TooLong = 1
numbered Layout = 2
numbered Range = 3
numbered Beyond = 4
numbered Stood = 5
numbered Misplaced = 6

abbrev pub field_of : {A : Type 0} → Result A Refusal → Field A
field_of (Ok v) = is v
field_of (Err refusal) = bad (numbered refusal)

-- Out of range it is refused with that number.
abbrev pub ranged_of : ℕ → Result (Option ℕ) Refusal → Field ℕ
ranged_of refusal (Ok (Some v)) = is v
ranged_of refusal (Ok None) = bad refusal
ranged_of refusal (Err other) = bad (numbered other)

-- The layout of a name, "1 to 16 of a-z, 0-9".
abbrev pub is_name : List ℕ → Bool
is_name s = ltb 0 (length s) && (leb (length s) 16 && all name_byte s)
