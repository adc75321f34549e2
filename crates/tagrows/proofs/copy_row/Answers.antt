-- Word by word; the last row begins at 4064.
use Prim.Native.Nat.{◌+◌}
use mathlib.Core.Path.{ap, ◌∙◌}
use native.Mathlib.Omega.{arith}
use lib.ListN.{get_or}
use lib.Seq.{get_or-take, get_or-drop}
use Rattle.lists.proofs.Tabulate.{filled_all}
use Rattle.tagrows.proofs.copy_row.Goals as goal

pub returns : goal.returns
returns c = let tags = c.args.tags.now in
    filled_all _ _ 32 c.copy_from_slice.ensures.len (λ j h.
    ap (λ xs. get_or xs j 0) c.copy_from_slice.ensures.after ∙ get_or-take _ _ j 0 (omega arith) ∙ get_or-drop _ tags j 0
    ∙ ap (λ at. get_or tags (at + j) 0) c.min-at.ensures)
