-- Tests over the numbers below a limit, lists made from a function, and functions changed at one number.
-- Believed: everything here. No word of any domain stands in this crate.
use Rattle.std.specs.Prelude.{ℕ, zero, suc}
use mathlib.Core.{Bool.{Bool, true, false, ◌&&◌, ◌||◌, cond}, List.{List, [], ◌∷◌}}
use Rattle.std.specs.Prelude.{eqb}

-- p holds at each number below n.
unfoldable pub every : ℕ → (ℕ → Bool) → Bool
every zero p = true
every (suc n) p = p zero && every n (λ i. p (suc i))

-- p holds at some number below n.
unfoldable pub any : ℕ → (ℕ → Bool) → Bool
any zero p = false
any (suc n) p = p zero || any n (λ i. p (suc i))

-- The lowest number below n at which p holds, and n where there is none.
unfoldable pub lowest : ℕ → (ℕ → Bool) → ℕ
lowest zero p = zero
lowest (suc n) p = cond (p zero) zero (suc (lowest n (λ i. p (suc i))))

-- f 0, f 1, up to f (n - 1).
unfoldable pub tabulate : {A : Type 0} → ℕ → (ℕ → A) → List A
tabulate zero f = []
tabulate (suc n) f = f zero ∷ tabulate n (λ i. f (suc i))

-- p holds of each element.
unfoldable pub all : {A : Type 0} → (A → Bool) → List A → Bool
all p [] = true
all p (x ∷ xs) = p x && all p xs

-- f with the value v at s.
unfoldable pub put : {A : Type 0} → (ℕ → A) → ℕ → A → ℕ → A
put f s v x = cond (eqb x s) v (f x)
