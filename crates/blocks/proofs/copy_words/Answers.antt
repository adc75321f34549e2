-- All is copied where both ranges are there, and otherwise nothing.
use Rattle.blocks.proofs.Copies.{copies_all, copies_none}
use Rattle.blocks.proofs.copy_words.Goals as goal

pub returns-then-is_within : goal.returns-then-is_within
returns-then-is_within c = copies_all _ _ _ _ _ _ _ c.is_within.ensures c.is_within-2.ensures c.if-is_within.true _ c.copy_from_slice.ensures.after

pub returns-else-is_within : goal.returns-else-is_within
returns-else-is_within c = search copies_none
