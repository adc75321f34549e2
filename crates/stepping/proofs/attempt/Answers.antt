-- The process is looked for, and its step is the machine's.
use native.Mathlib.Omega.{arith}
use Rattle.std.proofs.Common.{◌≡◌, Ok}
use Rattle.std.proofs.lemmas.Grind.{common_steps}
use Rattle.population.proofs.Lent.{tried_wide}
use Rattle.stepping.proofs.Steps.{step_none, step_place, step_found}
use Rattle.stepping.proofs.attempt.Goals as goal

pub returns-in_err-k : goal.returns-in_err-k
returns-in_err-k c = step_none _ _ _ _ _ _ _ _ c.told-serials c.find.result c.find.ensures (grind (arith, common_steps)) _ (grind (arith, common_steps))

pub returns-then-identifier_count-gt32 : goal.returns-then-identifier_count-gt32
returns-then-identifier_count-gt32 c = tried_wide _ _ _ _ _ c.identifier_count.ensures c.if-identifier_count-gt32.true

pub step_at-requires : goal.step_at-requires
step_at-requires c =
    let e : c.find.result ≡ Ok c.in_ok-k.k = grind (arith, common_steps) in
    step_place _ _ _ _ c.find.ensures _ e

pub returns : goal.returns
returns c =
    let e : c.find.result ≡ Ok c.in_ok-k.k = grind (arith, common_steps) in
    step_found _ _ _ _ _ _ _ _ c.told-serials _ c.find.ensures _ e _ _ _ c.step_at.ensures
