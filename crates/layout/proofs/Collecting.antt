-- The templates that pass a test, as a loop collects them.
use Prim.Native.Nat.{ℕ, ◌+◌}
use mathlib.Core.Path.{◌≡◌, refl, sym, ap, ap₂, ◌∙◌}
use mathlib.Core.Bool.{Bool}
use native.Mathlib.Numerals.{add-one}
use Rattle.route.specs.Search.{including, collect}

pub collect_none : (test : ℕ → Bool) → 0 ≡ collect 0 test
unfolding collect
collect_none test = refl

pub collect_more : (test : ℕ → Bool) (n found r : ℕ) (wanted : Bool) → found ≡ collect n test → wanted ≡ test n → r ≡ including found n wanted
    → r ≡ collect (n + 1) test
unfolding collect
collect_more test n found r wanted e w h = h ∙ ap₂ (λ (m : ℕ) (b : Bool). including m n b) e w ∙ ap (λ (k : ℕ). collect k test) (sym (add-one n))
