-- Every row holds, by computation: the plan is read from the bytes of its text, the machine runs, and the history is folded over the calls.
use mathlib.Core.Path.{◌≡◌, refl}
use mathlib.Core.List.{map}
use Rattle.cases.specs.Histories.{Row, reply, base_rows}
use Rattle.cases.proofs.Computing.{computing}

pub base_told : map (λ (r : Row). reply r.asked) base_rows ≡ map (λ (r : Row). r.told) base_rows
unfolding computing base_rows
base_told = refl
