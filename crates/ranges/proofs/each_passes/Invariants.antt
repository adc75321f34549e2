use Rattle.std.proofs.Common.{◌≡◌, ℕ, Bool, get_or}
use Rattle.lists.specs.Numbers.{every}
use Rattle.ranges.proofs.each_passes.Given as goal

abbrev pub invariant-loop-x : goal.invariant-loop-x
invariant-loop-x g l = (p : ℕ → Bool) → ((x : ℕ) (b : Bool) → goal.F-post g l.test x b → b ≡ p x) → l.fits ≡ every l.x-index (λ k. p (get_or l.xs k 0))
