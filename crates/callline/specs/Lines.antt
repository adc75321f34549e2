-- The line of a call, without the byte 10 that ends it, and what it is to read one.
use Rattle.std.specs.Prelude.{ℕ, ◌≡◌, ◌≢◌, ◌<◌, ◌^◌, Option, None, Some, List, ◌∷◌, ◌++◌, codes}
use Rattle.std.specs.Fmt.{decimal}
use Rattle.dispatch.specs.declared.Call.{Call}
use Rattle.dispatch.specs.declared.Call.TheVariants.{Step, Send, Raise, Lower}

-- a word and two numbers, one space apart
abbrev pub line : List ℕ → ℕ → ℕ → List ℕ
line word x y = word ++ (32 ∷ (decimal x ++ (32 ∷ decimal y)))

abbrev pub call_line : Call → List ℕ
call_line (Step serial branch) = line (codes "step") serial branch
call_line (Send from to) = line (codes "send") from to
call_line (Raise serial i) = line (codes "raise") serial i
call_line (Lower serial i) = line (codes "lower") serial i

-- both numbers are below 2^32, as those of a call of the code are
abbrev pub IsNumbered : Call → Type 0
IsNumbered (Step serial branch) = (serial < 2 ^ 32) × (branch < 2 ^ 32)
IsNumbered (Send from to) = (from < 2 ^ 32) × (to < 2 ^ 32)
IsNumbered (Raise serial i) = (serial < 2 ^ 32) × (i < 2 ^ 32)
IsNumbered (Lower serial i) = (serial < 2 ^ 32) × (i < 2 ^ 32)

-- bs is what r is in decimal, or is no number below 2^32
abbrev pub ReadsNumber : List ℕ → Option ℕ → Type 0
ReadsNumber bs (Some n) = bs ≡ decimal n
ReadsNumber bs None = (n : ℕ) → n < 2 ^ 32 → bs ≢ decimal n

-- bs is the line of r, or of no call
abbrev pub ReadsCall : List ℕ → Option Call → Type 0
ReadsCall bs (Some call) = bs ≡ call_line call
ReadsCall bs None = (call : Call) → IsNumbered call → bs ≢ call_line call
