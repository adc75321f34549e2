-- How long a list is, what stands past its end, and what stands in a list of one value.
use Prim.Native.Nat.{ℕ, zero, suc, ◌≤◌}
use mathlib.Core.Path.{◌≡◌, refl, sym, subst}
use mathlib.Core.List.{List}
use lib.ListN.{length, get_or, replicate, get_or-eq_default}

-- Past the end of an array stands the default.
pub past_end : (A : Type 0) (l : List A) (n i : ℕ) (d : A) → length l ≡ n → n ≤ i → d ≡ get_or l i d
past_end A l n i d e h = sym (get_or-eq_default l d (subst (λ (k : ℕ). k ≤ i) (sym e) h))

-- In a list of one value stands that value, and past its end too where it is the default.
pub get_or-same : (A : Type 0) (n i : ℕ) (x : A) → get_or (replicate n x) i x ≡ x
get_or-same A zero i x = refl
get_or-same A (suc n) zero x = refl
get_or-same A (suc n) (suc i) x = get_or-same A n i x
