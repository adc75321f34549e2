-- All digits where they fit, and otherwise nothing.
use Prim.Native.Nat.{◌<◌}
use borrow.Author.Rules.{rules}
use Rattle.numerals.proofs.Fitting.{decimal_none, decimal_there, decimal_room, decimal_written}
use Rattle.std.proofs.Common.{ap}
use mathlib.Core.Bool.{not}
use Rattle.numerals.proofs.write_decimal.Goals as goal

pub returns-then-not-is_within : goal.returns-then-not-is_within
returns-then-not-is_within c = decimal_none _ _ _ _ c.decimal_width-width.ensures _ c.is_within.ensures (ap not c.if-not-is_within.true)

pub write_digits-requires : goal.write_digits-requires
write_digits-requires c = let given = c.args in
    let h = decimal_there given.out.now _ _ _ c.decimal_width-width.ensures _ c.is_within.ensures (ap not c.if-not-is_within.false) in
    let l : given.n < 10000000000 = search rules in
    (h.0, h.1, decimal_room given.n _ c.decimal_width-width.ensures l)

pub overflow_add-result : goal.overflow_add-result
overflow_add-result c = let given = c.args in
    let h = decimal_there given.out.now _ _ _ c.decimal_width-width.ensures _ c.is_within.ensures (ap not c.if-not-is_within.false) in
    search (h, rules)

pub returns : goal.returns
returns c = decimal_written _ _ _ _ c.decimal_width-width.ensures _ c.is_within.ensures (ap not c.if-not-is_within.false) _ c.write_digits.ensures
