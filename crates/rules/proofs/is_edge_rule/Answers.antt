-- The rows' numbers are those from 12 to 16.
use Prim.Native.Nat.{ℕ, zero, suc, ◌+◌, ◌-◌, ◌≤◌, ◌<◌}
use mathlib.Core.Path.{◌≡◌, refl, sym, subst, ◌∙◌}
use mathlib.Core.Bool.{Bool, true, false, ◌||◌}
use native.Mathlib.Omega.{arith}
use lib.Dec.{eqb}
use borrow.Author.Tests.{eqb-true}
use Rattle.lists.specs.Numbers.{all}
use Rattle.lists.proofs.Tests.{fails}
use Rattle.rules.specs.Judge.{edge_rules, is_edge_rule}
use Rattle.rules.proofs.Edges.{some-row}
use Rattle.rules.proofs.is_edge_rule.Goals as goal

-- The number is that of a row of the table.
abbrev numbered : ℕ → Bool
numbered n = (((eqb n 12 || eqb n 13) || eqb n 14) || eqb n 15) || eqb n 16

numbered_is : (n : ℕ) → numbered n ≡ is_edge_rule n
unfolding is_edge_rule edge_rules all
numbered_is n = some-row (eqb n 12) (eqb n 13) (eqb n 14) (eqb n 15) (eqb n 16)

row : (k : ℕ) → k < 5 → true ≡ numbered (12 + k)
row zero h = refl
row (suc zero) h = refl
row (suc (suc zero)) h = refl
row (suc (suc (suc zero))) h = refl
row (suc (suc (suc (suc zero)))) h = refl
row (suc (suc (suc (suc (suc k))))) h = absurd (omega arith)

inside : (n : ℕ) → 12 ≤ n → n ≤ 16 → true ≡ is_edge_rule n
inside n l h = let q : 12 + (n - 12) ≡ n = omega arith in subst (λ (m : ℕ). true ≡ numbered m) q (row (n - 12) (omega arith)) ∙ numbered_is n

outside : (n : ℕ) → ((r : ℕ) → 12 ≤ r → r ≤ 16 → n ≡ r → ⊥) → false ≡ is_edge_rule n
outside n h =
    sym (λ i. (((no 12 (omega arith) (omega arith) i || no 13 (omega arith) (omega arith) i) || no 14 (omega arith) (omega arith) i)
    || no 15 (omega arith) (omega arith) i) || no 16 (omega arith) (omega arith) i)
    ∙ numbered_is n
  where
    no : (r : ℕ) → 12 ≤ r → r ≤ 16 → eqb n r ≡ false
    no r l g = fails (eqb n r) (λ e. h r l g (eqb-true n r e))

pub returns-in-12-to-16 : goal.returns-in-12-to-16
returns-in-12-to-16 c = inside _ (omega arith) (omega arith)

pub returns-in_default : goal.returns-in_default
returns-in_default c = outside _ (λ r l h e. omega arith)

pub returns-in_default-2 : goal.returns-in_default-2
returns-in_default-2 c = outside _ (λ r l h e. omega arith)
