-- The words of the part that was located.
use mathlib.Core.Path.{ap, ◌∙◌}
use Rattle.rules.specs.Words.{part_words}
use Rattle.embed.proofs.monitor_locate.Goals as goal

pub returns : goal.returns
returns c = c.into.ensures ∙ ap part_words c.locate-part.ensures
