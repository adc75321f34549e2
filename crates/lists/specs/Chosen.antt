-- Elements chosen by their place, and elements chosen by a test.
-- Not to be believed: the rows of crate cases alone name these.
use Rattle.std.specs.Prelude.{ℕ, zero, suc}
use mathlib.Core.{Bool.{Bool, true, false, cond}, List.{List, [], ◌∷◌, ◌++◌}}

-- The elements that pass, in order.
unfoldable pub filter : {A : Type 0} → (A → Bool) → List A → List A
filter p [] = []
filter p (x ∷ xs) = cond (p x) (x ∷ filter p xs) (filter p xs)

-- x where the test passes, and nothing where it does not.
unfoldable pub only_if : {A : Type 0} → Bool → A → List A
only_if true x = x ∷ []
only_if false x = []

-- f k for each k below n that passes, in order.
unfoldable pub chosen : {A : Type 0} → ℕ → (ℕ → Bool) → (ℕ → A) → List A
chosen zero p f = []
chosen (suc n) p f = chosen n p f ++ only_if (p n) (f n)
