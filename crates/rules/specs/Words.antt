-- Where a shown part lies, as words (include/monitor.h). A verdict's words are `numbers_of` of rules/specs/Judge.antt.
-- Believed: everything here. Proved against it: crate rules, and through it what embed writes.
use Rattle.std.specs.Prelude.{ℕ, List, [], ◌∷◌}
use Rattle.rules.specs.declared.Part.{Part}
use Rattle.rules.specs.Judge.{text_number}

-- Text, start, end.
unfoldable pub part_words : Part → List ℕ
part_words p = text_number p.text ∷ p.start ∷ p.end ∷ []
