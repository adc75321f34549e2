-- Each turn takes in one identifier.
use Rattle.std.proofs.Common.{ℕ, ◌≡◌, ◌&&◌, cond, rules, subst, sym}
use native.Mathlib.Nat.{sub-zero}
use borrow.Author.Tests.{tests}
use Rattle.std.proofs.lemmas.Iterator.{YieldsList-from_range}
use Rattle.std.proofs.lemmas.Iterator.Consumers.{fold_from_yields_List}
use Rattle.std.specs.List.{fold, range_with_len}
use Rattle.mask.specs.Mask.{has}
use Rattle.mask.specs.Sets.{plus_below}
use Rattle.prot.specs.Lent.{parted, Picked}
use Rattle.prot.proofs.Prot.{found_all}
use Rattle.prot.proofs.find_parted.Goals as goal

pub returns : goal.returns
returns c =
    let parts = parted c.args.layout.now c.args.a in
    let turn : ℕ → ℕ → ℕ = λ found t. cond (has t c.args.asked && parts t) (plus_below 32 found t) found in
    let gathered : c.fold.result ≡ fold turn 0 (range_with_len 0 c.args.limit)
    = fold_from_yields_List _ turn 0 c.fold.result c.fold.ensures.ran (YieldsList-from_range 0 c.args.limit c.args.limit (cc) (sub-zero _)) (λ m x b q k. search (rules, tests)) in
    subst (Picked c.args.asked parts c.args.limit) (sym gathered) (found_all c.args.asked parts c.ranges.asked.fits c.args.limit)
