-- The words of the verdict that the judge gave.
use mathlib.Core.Path.{ap, ◌∙◌}
use Rattle.rules.specs.Judge.{numbers_of}
use Rattle.embed.proofs.monitor_judge.Goals as goal

pub returns : goal.returns
returns c = c.into.ensures ∙ ap numbers_of c.judge-verdict.ensures
