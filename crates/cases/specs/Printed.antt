-- What `judge` prints, byte for byte, and the numbers of the same verdicts: an accepted pair, document 01's case c ("prints
-- exactly [..]"), both texts unread, the longest figures that a verdict holds, and others at the edge of a width.
-- Not to be believed: the rows hold, by computation.
use Rattle.std.specs.Prelude.{ℕ, List, [], ◌∷◌}
use Prim.Native.String.{String}
use Rattle.rules.specs.declared.{Verdict.{Verdict, TheVariants.{Unread}}, Text.{Text, TheVariants.{Plan as PlanText, Policy as PolicyText}}}
use Rattle.rules.specs.Judge.{judge, broken, numbers_of, printed}
use Rattle.cases.specs.Base.{text, base_plan, reader, base_policy, heading, changing, asserting}

pub record Sheet : Type 0 where
  pub numbers : List ℕ
  pub bytes : List ℕ

-- What a verdict gives, and what is expected: its numbers, and the lines that are printed.
unfoldable pub given : Verdict → Sheet
given v = record { numbers = numbers_of v; bytes = printed v }

unfoldable pub expected : List ℕ → List String → Sheet
expected numbers lines = record { numbers = numbers; bytes = text lines }

abbrev unread : Text → ℕ → ℕ → Verdict
unread text number line = Unread (record { text = text; number = number; line = line })

unfoldable pub verdicts : List Verdict
verdicts =
    judge (text base_plan) (text base_policy)
    ∷ judge (text (changing reader "lab=00000000" base_plan)) (text base_policy)
    ∷ judge (text (heading "templates=0" base_plan)) (text base_policy)
    ∷ judge (text base_plan) (text (asserting 0 "sink=4" base_policy))
    ∷ broken 255 255 255 255
    ∷ unread PlanText 1 0
    ∷ unread PolicyText 255 4294967295
    ∷ unread PlanText 2 1000000000
    ∷ unread PlanText 2 999999999
    ∷ []

unfoldable pub sheets : List Sheet
sheets =
    expected (0 ∷ 0 ∷ 0 ∷ 0 ∷ 0 ∷ []) ("verdict=accepted" ∷ [])
    ∷ expected (1 ∷ 13 ∷ 2 ∷ 3 ∷ 0 ∷ []) ("verdict=broken" ∷ "rule=13" ∷ "first=2" ∷ "second=3" ∷ "identifier=0" ∷ [])
    ∷ expected (2 ∷ 0 ∷ 3 ∷ 1 ∷ 0 ∷ []) ("verdict=unread" ∷ "text=plan" ∷ "number=3" ∷ "line=1" ∷ [])
    ∷ expected (2 ∷ 1 ∷ 3 ∷ 4 ∷ 0 ∷ []) ("verdict=unread" ∷ "text=policy" ∷ "number=3" ∷ "line=4" ∷ [])
    ∷ expected (1 ∷ 255 ∷ 255 ∷ 255 ∷ 255 ∷ []) ("verdict=broken" ∷ "rule=255" ∷ "first=255" ∷ "second=255" ∷ "identifier=255" ∷ [])
    ∷ expected (2 ∷ 0 ∷ 1 ∷ 0 ∷ 0 ∷ []) ("verdict=unread" ∷ "text=plan" ∷ "number=1" ∷ "line=0" ∷ [])
    ∷ expected (2 ∷ 1 ∷ 255 ∷ 4294967295 ∷ 0 ∷ []) ("verdict=unread" ∷ "text=policy" ∷ "number=255" ∷ "line=4294967295" ∷ [])
    ∷ expected (2 ∷ 0 ∷ 2 ∷ 1000000000 ∷ 0 ∷ []) ("verdict=unread" ∷ "text=plan" ∷ "number=2" ∷ "line=1000000000" ∷ [])
    ∷ expected (2 ∷ 0 ∷ 2 ∷ 999999999 ∷ 0 ∷ []) ("verdict=unread" ∷ "text=plan" ∷ "number=2" ∷ "line=999999999" ∷ [])
    ∷ []
