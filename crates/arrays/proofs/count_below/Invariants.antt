use Rattle.std.proofs.Common.{◌≡◌, ◌≤◌, true}
use Rattle.ranges.specs.Ranges.{rises}
use Rattle.arrays.specs.Places.{Split}
use Rattle.arrays.proofs.count_below.Given as goal

abbrev pub invariant-loop-x : goal.invariant-loop-x
invariant-loop-x l = (l.below ≤ l.x-index) × (rises l.xs ≡ true → Split l.xs l.x-index l.serial l.below)
