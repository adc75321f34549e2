use mathlib.Core.Path.{◌≡◌}
use Rattle.lists.specs.Numbers.{every}
use Rattle.planfit.proofs.Fitting.{fits_at}
use Rattle.planfit.proofs.is_fitting.Given as goal

abbrev pub invariant-loop-words : goal.invariant-loop-words
invariant-loop-words l = (l.fits ≡ every l.words-index (fits_at l.row l.n l.m))
