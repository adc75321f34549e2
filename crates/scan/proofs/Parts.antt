-- Parts of a list as the code lends them: `&s[a..e]` is `take (e - a) (drop a s)`.
use Prim.Native.Nat.{ℕ, zero, suc, ◌-◌}
use mathlib.Core.Path.{◌≡◌, sym, ap, ◌∙◌}
use mathlib.Core.List.{List, [], ◌∷◌}
use native.Mathlib.Omega.{arith}
use native.Mathlib.Nat.{sub-zero, zero-sub, suc-sub-suc}
use lib.ListN.{length, take, drop, length-drop}
use lib.Seq.{take_all, take-nil}

-- A part that goes to the end.
pub rest_of : (s : List ℕ) (i : ℕ) → take (length s - i) (drop i s) ≡ drop i s
rest_of s i = take_all (length s - i) (drop i s) (simp length-drop (omega arith))

-- A part from the start.
pub first_of : (s : List ℕ) (i : ℕ) → take (i - 0) s ≡ take i s
first_of s i = ap (λ (k : ℕ). take k s) (sub-zero i)

-- The end of a list's start is a part.
pub drop-take : (a e : ℕ) (s : List ℕ) → drop a (take e s) ≡ take (e - a) (drop a s)
drop-take zero e s = sym (first_of s e)
drop-take (suc a) zero s = ap (λ (k : ℕ). take k (drop (suc a) s)) (sym (zero-sub (suc a)))
drop-take (suc a) (suc e) [] = sym (take-nil (suc e - suc a))
drop-take (suc a) (suc e) (x ∷ s) = drop-take a e s ∙ ap (λ (k : ℕ). take k (drop a s)) (sym (suc-sub-suc e a))
