-- Past the width nothing is added; below it the shifted 1 loses no digit.
use mathlib.Core.Path.{sym, ap, ◌∙◌}
use native.Mathlib.Nat.{mod-eq_of_lt}
use native.Mathlib.Omega.{arith}
use Rattle.mask.specs.Sets.{plus_below}
use Rattle.mask.proofs.Items.{plus_past}
use Rattle.mask.proofs.Shifted.{one_added, one_fits}
use Rattle.mask.proofs.Mask.insert.Goals as goal

pub returns-then-WIDTH-i : goal.returns-then-WIDTH-i
returns-then-WIDTH-i g c = sym (plus_past g.Self.Mask.WIDTH _ _ (rw c.WIDTH.ensures at c.if-WIDTH-i.true))

pub returns : goal.returns
returns g c =
    let below = rw c.WIDTH.ensures at c.if-WIDTH-i.false in
    let enough = g.met.Self.Mask.narrow_enough in
    c.narrow.ensures ∙ mod-eq_of_lt (one_fits g.Self.Mask.WIDTH 64 c.widen.result c.args.i _ below enough (grind arith) c.widen.ensures.fits)
    ∙ one_added g.Self.Mask.WIDTH 64 c.widen.result c.args.i _ below enough (grind arith) ∙ ap (λ m. plus_below g.Self.Mask.WIDTH m c.args.i) c.widen.ensures.value
