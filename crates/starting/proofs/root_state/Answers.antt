-- The labels are those of the template at 0.
use mathlib.Core.Path.{ap}
use lib.ListN.{replicate}
use Rattle.plan.specs.declared.Template.{Template}
use Rattle.starting.proofs.root_state.Goals as goal

pub returns : goal.returns
returns c = ap (λ (t : Template). record { plan = c.args.plan; next = 1; live = 1; serials = replicate 128 0; templates = replicate 128 0; labels = replicate 128 t.lab; tags = replicate 4096 0 }) c.template-root.ensures
