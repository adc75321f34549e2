-- One digit more than the logarithm, and one digit for 0.
use native.Mathlib.Omega.{arith}
use Rattle.numerals.proofs.Digits.{width_of}
use Rattle.numerals.proofs.decimal_width.Goals as goal

pub returns : goal.returns
returns c = let log = c.checked_ilog10.ensures in
    width_of _ _ _ _ log.none log.power_le log.next_power_gt log.bound (λ k h p. grind arith) c.map_or.ensures
