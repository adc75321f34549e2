-- A whole list of calls: the machine that it leaves, and how `replay` is handed it.
-- Believed: everything here. Proved against it: crates playback, running and replaying.
use Rattle.std.specs.Prelude.{ℕ, ◌+◌, ◌*◌, List, [], ◌∷◌, get_or}
use Rattle.lists.specs.Numbers.{tabulate}
use Rattle.machine.specs.Machine.{Machine, Limits, Call, run}
use Rattle.machine.specs.State.{call_of}

-- "A refused call hands on the state it got."
unfoldable pub machine_after : Limits → Machine → List Call → Machine
machine_after limits m [] = m
machine_after limits m (call ∷ rest) = machine_after limits (run limits m call).machine rest

-- Call i of a list of words, three to a call.
abbrev pub call_at : List ℕ → ℕ → Call
call_at words i = call_of (get_or words (i * 3) 0) (get_or words (i * 3 + 1) 0) (get_or words (i * 3 + 2) 0)

-- The first n calls.
unfoldable pub calls_in : ℕ → List ℕ → List Call
calls_in n words = tabulate n (call_at words)
