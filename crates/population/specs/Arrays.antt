-- What the test of refusal 20 asks of the four arrays, in the arrays' own terms. The laws beside this crate say what that
-- means for the machine.
-- Not to be believed: nothing is stated of an operation by these alone.
use Rattle.std.specs.Prelude.{ℕ, ◌+◌, ◌-◌, ◌*◌, ◌^◌, min, ◌≡◌, Bool, ◌&&◌, List, length, get_or, ltb, leb}
use Rattle.lists.specs.Numbers.{every}
use Rattle.machine.specs.State.{Cells}

abbrev pub cells : List ℕ → List ℕ → List ℕ → List ℕ → Cells
cells serials templates labels tags = record { serials = serials; templates = templates; labels = labels; tags = tags }

-- The arrays have the places that document 01 gives them.
pub record Sized (c : Cells) : Type 0 where
  pub serials : length c.serials ≡ 128
  pub templates : length c.templates ≡ 128
  pub labels : length c.labels ≡ 128
  pub tags : length c.tags ≡ 4096

-- The processes' part of refusal 20: N templates, M identifiers.
unfoldable pub arrays_fit : ℕ → ℕ → ℕ → ℕ → Cells → Bool
arrays_fit N M next live c =
    every (live - 1) (λ i. ltb (get_or c.serials i 0) (get_or c.serials (i + 1) 0))
    && (every live (λ i. ltb (get_or c.serials i 0) next)
    && (every live (λ i. ltb (get_or c.templates i 0) N)
    && (every live (λ i. ltb (get_or c.labels i 0) (2 ^ M))
    && every (live * M) (λ i. ltb (get_or c.tags i 0) next))))

-- So many numbers stand in the list, each below the bound.
unfoldable pub below : List ℕ → ℕ → ℕ → Bool
below xs n bound = leb n (length xs) && every n (λ i. ltb (get_or xs i 0) bound)

-- The same of parts of any length, none of which may end too soon; a mask has 32 items at the most.
unfoldable pub parts_fit : ℕ → ℕ → ℕ → ℕ → Cells → Bool
parts_fit N M next live c =
    (leb live (length c.serials) && every (live - 1) (λ i. ltb (get_or c.serials i 0) (get_or c.serials (i + 1) 0)))
    && (below c.serials live next
    && (below c.templates live N
    && (below c.labels live (2 ^ min M 32)
    && below c.tags (live * M) next)))
