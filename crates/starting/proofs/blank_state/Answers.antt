-- The blank plan, in its place.
use mathlib.Core.Path.{ap}
use lib.ListN.{replicate}
use Rattle.plan.specs.declared.Plan.{Plan}
use Rattle.starting.proofs.blank_state.Goals as goal

pub returns : goal.returns
returns c = ap (λ (p : Plan). record { plan = p; next = 0; live = 0; serials = replicate 128 0; templates = replicate 128 0; labels = replicate 128 0; tags = replicate 4096 0 }) c.no_plan.ensures
