use Rattle.std.proofs.Common.{◌≡◌, length}
use Rattle.ranges.proofs.Ranges.{rising_to}
use Rattle.ranges.proofs.is_rising.Given as goal

abbrev pub invariant-loop-x : goal.invariant-loop-x
invariant-loop-x l = l.fits ≡ rising_to l.fn.xs (length l.yielded)
