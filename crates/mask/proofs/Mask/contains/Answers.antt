-- Past the width a mask has nothing; below it the shift brings the item's digit to the lowest place, which is `has`.
use mathlib.Core.Path.{sym}
use native.Mathlib.Omega.{arith}
use Rattle.mask.proofs.Items.{is_held}
use Rattle.mask.proofs.Width.{has_past}
use Rattle.mask.proofs.Mask.contains.Goals as goal

pub returns-then-WIDTH-i : goal.returns-then-WIDTH-i
returns-then-WIDTH-i g c =
    let w = c.widen-wide.ensures in
    let fits = rw w.value at w.fits in
    sym (has_past g.Self.Mask.WIDTH (g.Self.Mask.bits c.args.self) c.args.i fits (rw c.WIDTH.ensures at c.if-WIDTH-i.true))

pub returns : goal.returns
returns g c = is_held _ _ _ _ c.widen-wide.ensures.value (grind arith)
