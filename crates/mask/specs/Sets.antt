-- Masks as sets: what contracts and laws name besides Mask.antt.
-- Not to be believed: nothing that has to be believed is said with these.
use Rattle.std.specs.Prelude.{ℕ, zero, suc, ◌+◌, ◌*◌, ◌/◌, ◌%◌, ◌^◌, ◌≡◌, Bool, not, cond, ◌||◌, ltb}
use Rattle.lists.specs.Numbers.{every}
use Rattle.mask.specs.Mask.{has, plus}

-- Each item of a below the width is in b.
unfoldable pub within : ℕ → ℕ → ℕ → Bool
within width a b = every width (λ i. not (has i a) || has i b)

-- The items of m, and i where it is below the width.
unfoldable pub plus_below : ℕ → ℕ → ℕ → ℕ
plus_below width m i = cond (ltb i width) (plus m i) m

-- The items of m, each n higher.
unfoldable pub shifted : ℕ → ℕ → ℕ
shifted n m = m * 2 ^ n

-- How many items below the width are in m.
unfoldable pub size : ℕ → ℕ → ℕ
size zero m = 0
size (suc width) m = m % 2 + size width (m / 2)

-- The items of the mask are those that pass the test.
abbrev pub Marks : ℕ → (ℕ → Bool) → Type 0
Marks m test = (i : ℕ) → has i m ≡ test i
