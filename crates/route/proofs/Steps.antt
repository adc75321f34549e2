-- The small steps of the code, each as the code meets it: what its calls gave are variables, and what they ensure are
-- premises.
use Prim.Native.Nat.{ℕ}
use mathlib.Core.Path.{◌≡◌, refl, sym, ap, ◌∙◌}
use mathlib.Core.List.{List}
use mathlib.Core.Bool.{Bool, true, false, cond}
use lib.Dec.{ltb}
use Rattle.lists.specs.Joins.{both}
use Rattle.mask.specs.Mask.{plus}
use Rattle.mask.specs.Sets.{plus_below}
use Rattle.route.specs.Search.{in_mask, if_so, including, enter, reach}
use Rattle.route.specs.Lent.{laid_out}

-- ---- masks

pub included : (m x r : ℕ) (wanted : Bool) → wanted ≡ true → r ≡ plus_below 64 m x → r ≡ including m x wanted
unfolding including if_so both plus_below
included m x r wanted e h = h ∙ go (ltb x 64) ∙ ap (including m x) (sym e)
  where
    go : (b : Bool) → cond b (plus m x) m ≡ if_so (both b true) m (λ _. plus m x)
    go true = refl
    go false = refl

-- What is not wanted changes nothing.
pub not_included : (m x : ℕ) (wanted : Bool) → wanted ≡ false → m ≡ including m x wanted
unfolding including if_so both
not_included m x wanted e = go (ltb x 64) ∙ ap (including m x) (sym e)
  where
    go : (b : Bool) → m ≡ if_so (both b false) m (λ _. plus m x)
    go true = refl
    go false = refl

-- ---- a search

pub search_laid : (first second : List ℕ) (start barred r : ℕ) → r ≡ enter (laid_out first second) (in_mask barred) 64 0 start
    → r ≡ reach (laid_out first second) (in_mask barred) start
unfolding reach
search_laid first second start barred r e = e
