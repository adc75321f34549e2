-- A move as a call, and refusals 27 to 29 in the order of document 01, by what the plan says: the machine's `move_answer`.
-- Not to be believed: laws tie it to the machine, and the contract of `dispatch::run_call` names the machine alone.
use Rattle.std.specs.Prelude.{ℕ, Bool, true, false, not, ltb}
use Rattle.mask.specs.Mask.{has}
use Rattle.machine.specs.declared.Answer.{Answer}
use Rattle.machine.specs.declared.Answer.TheVariants.{Done}
use Rattle.machine.specs.Machine.{Call, raise, lower, refuse_if}

unfoldable pub moves : Bool → ℕ → ℕ → Call
moves true s i = raise s i
moves false s i = lower s i

unfoldable pub refusal_of : ℕ → Bool → ℕ → ℕ → Answer
refusal_of M risk allowed i = refuse_if (not (ltb i M)) 27 (refuse_if (not risk) 28 (refuse_if (not (has i allowed)) 29 Done))
