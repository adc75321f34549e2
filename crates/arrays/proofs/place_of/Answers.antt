-- Those below the serial are counted, and the next one is compared.
use Rattle.std.proofs.Common.{rules}
use Rattle.arrays.proofs.Serials.{located_found, located_none}
use Rattle.arrays.proofs.place_of.Goals as goal

pub returns-in-Some-clause-place : goal.returns-in-Some-clause-place
returns-in-Some-clause-place c = located_found c.args.xs.now _ _ c.count_below-low.ensures.split (search rules) (search rules)

pub returns-in_default-clause-place : goal.returns-in_default-clause-place
returns-in_default-clause-place c = located_none c.args.xs.now _ _ c.count_below-low.ensures.split (λ l q. c.if-x-serial.false (search rules))

pub returns-in_default-2-clause-place : goal.returns-in_default-2-clause-place
returns-in_default-2-clause-place c = located_none c.args.xs.now _ _ c.count_below-low.ensures.split (λ l q. absurd (search rules))
