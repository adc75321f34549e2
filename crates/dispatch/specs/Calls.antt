-- The machine's call that a call of the code is, and its words.
-- Not to be believed: the contracts of the exported functions do not name it.
use Rattle.std.specs.Prelude.{ℕ, List, [], ◌∷◌}
use Rattle.machine.specs.Machine as machine
use Rattle.dispatch.specs.declared.Call.{Call}
use Rattle.dispatch.specs.declared.Call.TheVariants.{Step, Send, Raise, Lower}

abbrev pub meant : Call → machine.Call
meant (Step serial branch) = machine.step serial branch
meant (Send from to) = machine.send from to
meant (Raise serial i) = machine.raise serial i
meant (Lower serial i) = machine.lower serial i

abbrev pub words_of : Call → List ℕ
words_of (Step serial branch) = 0 ∷ serial ∷ branch ∷ []
words_of (Send from to) = 1 ∷ from ∷ to ∷ []
words_of (Raise serial i) = 2 ∷ serial ∷ i ∷ []
words_of (Lower serial i) = 3 ∷ serial ∷ i ∷ []
