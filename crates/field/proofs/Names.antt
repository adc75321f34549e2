-- The library's test of each element, in the words of crate lists.
use Rattle.std.proofs.Common.{◌≡◌, Bool, ◌&&◌, List, [], ◌∷◌, refl, ap}
use Rattle.std.specs.List.{list_all}
use Rattle.lists.specs.Numbers.{all}

pub all_listed : {A : Type 0} (p : A → Bool) (s : List A) → list_all p s ≡ all p s
unfolding all
all_listed p [] = refl
all_listed p (x ∷ s) = ap (λ (b : Bool). p x && b) (all_listed p s)
