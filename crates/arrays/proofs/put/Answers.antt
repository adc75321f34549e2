-- Past the end the list stays as it is.
use Prim.Native.Nat.{ℕ, zero, suc, ◌≤◌}
use mathlib.Core.Path.{◌≡◌, refl, ap}
use mathlib.Core.List.{List, [], ◌∷◌}
use native.Mathlib.Nat.{not-suc-le-zero, le_of_suc-le-suc}
use lib.ListN.{length, set}
use Rattle.arrays.proofs.put.Goals as goal

set_past : (xs : List ℕ) (at v : ℕ) → length xs ≤ at → xs ≡ set xs at v
set_past [] at v h = refl
set_past (x ∷ xs) zero v h = absurd (not-suc-le-zero h)
set_past (x ∷ xs) (suc at) v h = ap (λ (l : List ℕ). x ∷ l) (set_past xs at v (le_of_suc-le-suc h))

pub returns-else-at-xs : goal.returns-else-at-xs
returns-else-at-xs c = search set_past
