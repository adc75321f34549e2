-- The lines of answers and of a state.
use Rattle.std.specs.Prelude.{ℕ, zero, suc, ◌+◌, ◌*◌, List, [], ◌∷◌, ◌++◌, ◌==◌, if◌then◌else◌, codes, nat_lt, nat_le, slice_index, slice_range}
use Rattle.std.specs.List.{flat_map}
use Rattle.std.specs.Fmt.{decimal}
use Rattle.console.specs.Hexadecimal.{hex_word_of}
use Rattle.machine.specs.declared.State.{State}

-- the line of an answer's code
abbrev pub answer_line : ℕ → List ℕ
answer_line code =
    if code == 0 then codes "done\n"
    else if code == 1 then codes "delivered\n"
    else if code == 2 then codes "held\n"
    else codes "refused " ++ decimal code ++ 10 ∷ []

-- the lines of answers
abbrev pub answer_lines : List ℕ → List ℕ
answer_lines answers = flat_map answer_line answers

-- tags with commas between them
abbrev pub tag_list : List ℕ → List ℕ
tag_list [] = []
tag_list (t ∷ ts) = decimal t ++ flat_map (λ u. 44 ∷ decimal u) ts

-- what a process's line has before its tags
unfoldable pub names_of : ℕ → ℕ → ℕ → List ℕ
names_of serial template label =
    codes "serial=" ++ decimal serial ++ codes " template=" ++ decimal template ++ codes " label=" ++ hex_word_of label ++ codes " tags="

-- the line of a process: its serial, template and label, and its tags, one for each identifier of the plan
unfoldable pub process_line : State → ℕ → List ℕ
process_line s place =
    names_of (slice_index s.serials place) (slice_index s.templates place) (slice_index s.labels place)
    ++ tag_list (slice_range s.tags (place * s.plan.identifiers) ((place + 1) * s.plan.identifiers)) ++ 10 ∷ []

-- the same of any place: nothing where the state has no such place, or more identifiers than a plan may have
abbrev pub process_line_at : State → ℕ → List ℕ
process_line_at s place =
    if nat_lt 32 s.plan.identifiers then [] else if nat_le 128 place then [] else process_line s place

-- the lines of the first n places
abbrev pub process_lines : State → ℕ → List ℕ
process_lines s zero = []
process_lines s (suc n) = process_lines s n ++ process_line_at s n

-- the next serial and how many live
abbrev pub counts_line : State → List ℕ
counts_line s = codes "next=" ++ decimal s.next ++ codes " live=" ++ decimal s.live ++ 10 ∷ []

-- a state
abbrev pub state_lines : State → List ℕ
state_lines s = counts_line s ++ process_lines s s.live
