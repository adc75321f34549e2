use Rattle.std.proofs.Common.{◌≡◌, ℕ, ◌<◌, Bool}
use Rattle.route.specs.Search.{collect}
use Rattle.layout.proofs.collect.Given as goal

abbrev pub invariant-loop-x : goal.invariant-loop-x
invariant-loop-x g l = (p : ℕ → Bool) → ((x : ℕ) (b : Bool) → x < 64 → goal.F-post g l.fn.test x b → b ≡ p x) → l.found ≡ collect l.x p
