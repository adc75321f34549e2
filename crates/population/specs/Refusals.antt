-- Document 01's numbers of the refusals of step, send, raise and lower, the answers that results stand for, and where a
-- process is found.
-- Not to be believed: the contract of `dispatch::run_call` names the machine alone.
use Rattle.std.specs.Prelude.{ℕ, ◌≡◌, ◌≤◌, ◌<◌, List, length, slice_range, Result, Ok, Err}
use Rattle.machine.specs.declared.Answer.{Answer}
use Rattle.machine.specs.declared.Answer.TheVariants.{Done, Refused}
use Rattle.arrays.specs.Places.{Located}
use Rattle.population.specs.declared.Refusal.{Refusal}
use Rattle.population.specs.declared.Refusal.TheVariants.{BadState, NotLive, NoBranch, NoRoom, NoSerial, BadLabel, ToItself, NoIdentifier, NotAtRisk, NotAllowed}

abbrev pub number_of : Refusal → ℕ
number_of BadState = 20
number_of NotLive = 21
number_of NoBranch = 22
number_of NoRoom = 23
number_of NoSerial = 24
number_of BadLabel = 25
number_of ToItself = 26
number_of NoIdentifier = 27
number_of NotAtRisk = 28
number_of NotAllowed = 29

abbrev pub refused : Refusal → Answer
refused refusal = Refused (number_of refusal)

-- The answer of what is done where it is not refused,
abbrev pub done_or : {A : Type 0} → Result A Refusal → Answer
done_or (Ok v) = Done
done_or (Err refusal) = refused refusal

-- and of what has an answer of its own then.
abbrev pub answer_or : Result Answer Refusal → Answer
answer_or (Ok answer) = answer
answer_or (Err refusal) = refused refusal

-- Where a serial stands among the first n, if so many are there and rise, and n where none of them has it.
abbrev pub AmongFirst : List ℕ → ℕ → ℕ → ℕ → Type 0
AmongFirst serials n s k = n ≤ length serials → Located (slice_range serials 0 n) s k

-- The place of a serial among the live ones, if they rise, or that none of them has it.
abbrev pub Found : List ℕ → ℕ → ℕ → Result ℕ Refusal → Type 0
Found serials live s (Ok k) = AmongFirst serials live s k × (k < live) × (live ≤ 128)
Found serials live s (Err refusal) = AmongFirst serials live s live × (refusal ≡ NotLive)
