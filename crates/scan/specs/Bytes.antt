-- Bytes of a text: a text is the list of its bytes.
-- Believed: everything here. Proved against it: crate scan.
use Prim.Native.{Nat.{ℕ, zero, suc, ◌+◌}, Char.{code}, String.{String, [], ◌∷◌}}
use mathlib.Core.{Bool.{Bool, true, false, cond, ◌&&◌, ◌||◌}, List.{List, [] as []ᴸ, ◌∷◌ as ◌∷ᴸ◌}}
use Rattle.std.specs.Prelude.{eqb}

-- The bytes of a text that is written out, so that a key reads as in document 01: `bytes "name="`.
abbrev pub bytes : String → List ℕ
bytes [] = []ᴸ
bytes (c ∷ s) = code c ∷ᴸ bytes s

-- How many bytes stand before the first b; all of them where there is none.
unfoldable pub before : ℕ → List ℕ → ℕ
before b []ᴸ = zero
before b (x ∷ᴸ s) = cond (eqb x b) zero (suc (before b s))

-- "byte for byte": the second list begins with the first.
unfoldable pub starts_with : List ℕ → List ℕ → Bool
starts_with []ᴸ s = true
starts_with (k ∷ᴸ key) []ᴸ = false
starts_with (k ∷ᴸ key) (x ∷ᴸ s) = eqb x k && starts_with key s

-- The two lists are the same.
unfoldable pub same : List ℕ → List ℕ → Bool
same []ᴸ []ᴸ = true
same []ᴸ (y ∷ᴸ t) = false
same (x ∷ᴸ s) []ᴸ = false
same (x ∷ᴸ s) (y ∷ᴸ t) = eqb x y && same s t

-- s is one of the lists.
unfoldable pub stands_in : List ℕ → List (List ℕ) → Bool
stands_in s []ᴸ = false
stands_in s (t ∷ᴸ rest) = same s t || stands_in s rest

-- Where the byte lies that stands k bytes further than the one at p: a block, and an offset in it.
abbrev pub further : ℕ → ℕ × ℕ → ℕ × ℕ
further k p = (p.0, k + p.1)
