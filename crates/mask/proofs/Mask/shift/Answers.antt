-- Past the width nothing is left; below it nothing is lost before the cut.
use Prim.Native.Nat.{◌%◌, ◌^◌}
use mathlib.Core.Path.{ap, ◌∙◌}
use native.Mathlib.Nat.{mod-eq_of_lt}
use native.Mathlib.Omega.{arith}
use lib.Pow.{pow_pos}
use Rattle.mask.specs.Sets.{shifted}
use Rattle.mask.proofs.Shifted.{shifted_past, all_shifted}
use Rattle.mask.proofs.Mask.shift.Goals as goal

pub returns-then-WIDTH-n : goal.returns-then-WIDTH-n
returns-then-WIDTH-n g c =
    c.narrow.ensures ∙ mod-eq_of_lt (pow_pos g.Self.Mask.WIDTH) ∙ shifted_past g.Self.Mask.WIDTH _ _ (rw c.WIDTH.ensures at c.if-WIDTH-n.true)

pub returns : goal.returns
returns g c =
    let below = rw c.WIDTH.ensures at c.if-WIDTH-n.false in
    c.narrow-2.ensures ∙ all_shifted g.Self.Mask.WIDTH c.args.n c.widen.result _ below g.met.Self.Mask.narrow_enough c.widen.ensures.fits (grind arith)
    ∙ ap (λ m. shifted c.args.n m % 2 ^ g.Self.Mask.WIDTH) c.widen.ensures.value
