-- Numbers that rise, as the machine's test says it of places and as a fact of each number and the one after it.
use Prim.Native.Nat.{ℕ, zero, suc, ◌+◌, ◌-◌, ◌≤◌, ◌<◌}
use native.Mathlib.Omega.{arith}
use native.Mathlib.Numerals.{add-one}
use mathlib.Core.Path.{◌≡◌, sym, subst}
use mathlib.Core.Bool.{true}
use mathlib.Core.List.{List, [], ◌∷◌}
use lib.Dec.{ltb}
use lib.ListN.{length, get_or}
use borrow.Author.Tests.{ltb-true, lt-ltb}
use Rattle.lists.proofs.Every.{every_at, every_of}
use Rattle.machine.specs.Machine.{rising}

-- Each number is greater than the one before it; the first is at least low.
abbrev pub Climbs : ℕ → List ℕ → Type 0
Climbs low [] = Unit {0}
Climbs low (x ∷ l) = (low ≤ x) × Climbs (suc x) l

climbs_at : (low : ℕ) (l : List ℕ) (i : ℕ) → Climbs low l → suc i < length l → get_or l i 0 < get_or l (suc i) 0
climbs_at low [] i c h = absurd (omega arith)
climbs_at low (x ∷ []) i c h = absurd (omega arith)
climbs_at low (x ∷ (y ∷ l)) zero c h = c.1.0
climbs_at low (x ∷ (y ∷ l)) (suc i) c h = climbs_at (suc x) (y ∷ l) i c.1 (omega arith)

at_climbs : (low x : ℕ) (l : List ℕ) → low ≤ x
    → ((i : ℕ) → suc i < length (x ∷ l) → get_or (x ∷ l) i 0 < get_or (x ∷ l) (suc i) 0) → Climbs low (x ∷ l)
at_climbs low x [] h f = (h, tt)
at_climbs low x (y ∷ l) h f = (h, at_climbs (suc x) y l (f 0 (omega arith)) (λ i k. f (suc i) (omega arith)))

-- Such a list passes the machine's test,
pub climbs_rising : (low : ℕ) (l : List ℕ) → Climbs low l → rising l ≡ true
unfolding rising
climbs_rising low l c = every_of (length l - 1) (λ i. ltb (get_or l i 0) (get_or l (i + 1) 0))
    (λ i h. lt-ltb (get_or l i 0) (get_or l (i + 1) 0)
    (subst (λ (j : ℕ). get_or l i 0 < get_or l j 0) (sym (add-one i)) (climbs_at low l i c (omega arith))))

-- and back.
pub rising_climbs : (l : List ℕ) → rising l ≡ true → Climbs 0 l
unfolding rising
rising_climbs [] e = tt
rising_climbs (x ∷ l) e = at_climbs 0 x l (omega arith) (λ i h.
    subst (λ (j : ℕ). get_or (x ∷ l) i 0 < get_or (x ∷ l) j 0) (add-one i)
    (ltb-true (get_or (x ∷ l) i 0) (get_or (x ∷ l) (i + 1) 0)
    (every_at (length (x ∷ l) - 1) (λ i. ltb (get_or (x ∷ l) i 0) (get_or (x ∷ l) (i + 1) 0)) e i (omega arith))))
