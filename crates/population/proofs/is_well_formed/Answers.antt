-- The plan's part, then the processes'.
use borrow.Author.Rules.{rules}
use Rattle.population.proofs.Fits.{bad_plan, fit_arrays}
use Rattle.std.proofs.Common.{ap}
use mathlib.Core.Bool.{not}
use Rattle.population.proofs.is_well_formed.Goals as goal

pub returns-then-not-is_fitting : goal.returns-then-not-is_fitting
returns-then-not-is_fitting c = bad_plan _ _ c.is_fitting.ensures _ _ _ (search rules) (ap not c.if-not-is_fitting.true)

pub returns : goal.returns
returns c = fit_arrays _ _ c.is_fitting.ensures _ _ _ (search rules) (ap not c.if-not-is_fitting.false) _ _ c.template_count-count.ensures c.identifier_count-m.ensures
    (record { serials = search rules; templates = search rules; labels = search rules; tags = search rules }) _ c.are_fitting.ensures
