-- Every row of the box of pairs holds, by computation; and the prot half of the box promise speaks of a send there.
use mathlib.Core.{Path.{◌≡◌, refl, ap}, Bool.{true≢false}, List.{map}}
use lib.Dec.{eqb}
use native.Mathlib.Omega.{arith}
use Rattle.machine.specs.Machine.{box_limits, send, run}
use Rattle.machine.specs.State.{code_of}
use Rattle.promise.proofs.Promise.{box_promise}
use Rattle.cases.specs.Base.{text}
use Rattle.cases.specs.Histories.{Row, reply}
use Rattle.cases.specs.Pairs.{pair_plan, pair_policy, in_open_pairs, one_pair, pair_rows}
use Rattle.cases.proofs.Computing.{computing}

pub pairs_told : map (λ (r : Row). reply r.asked) pair_rows ≡ map (λ (r : Row). r.told) pair_rows
unfolding computing pair_plan pair_policy pair_rows
pairs_told = refl

-- All that the promise's prot half asks of a Source and a Sink process holds of writer 3 and reader 4.
pub prot_met : code_of (run box_limits (in_open_pairs one_pair).machine (send 3 4)).answer ≡ 1
unfolding computing pair_plan pair_policy
prot_met =
    (box_promise (text pair_plan) (text pair_policy) refl one_pair).prot 1 (omega arith) refl 3 4 refl refl refl refl
    (λ e. true≢false (ap (eqb 3) e)) (1, refl, refl) refl refl
