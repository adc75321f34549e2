-- The bytes before byte 10, from the start on.
use mathlib.Core.Path.{◌∙◌}
use Rattle.locating.proofs.Lines.{end_room, end_is, fits}
use Rattle.locating.proofs.line_end.Goals as goal

pub overflow_add-result : goal.overflow_add-result
overflow_add-result c = let e = c.unwrap_or.ensures ∙ c.find.ensures.place in search (fits, end_room, e)

pub returns : goal.returns
returns c = end_is _ _ _ (c.unwrap_or.ensures ∙ c.find.ensures.place)
