-- The base plan and its neighbours (document 01), as the lines of their texts.
use Rattle.std.specs.Prelude.{ℕ, zero, suc, ◌+◌, ◌*◌, ◌/◌, ◌%◌, cond, List, [], ◌∷◌, ◌++◌, take}
use Prim.Native.String.{String}
use Rattle.lists.specs.Numbers.{tabulate}
use Rattle.scan.specs.Bytes.{bytes, before, starts_with}
use Rattle.text.specs.Reading.{plan_header, template_lines, policy_header, assertion_lines}

-- The bytes of lines, each ended by byte 10.
unfoldable pub text : List String → List ℕ
text [] = []
text (line ∷ rest) = bytes line ++ (10 ∷ text rest)

unfoldable pub base_plan : List String
base_plan =
    "templates=4" ∷ "identifiers=1"
    ∷ "name=boot" ∷ "form=go:1" ∷ "lab=00000000" ∷ "pos=00000000" ∷ "neg=00000001" ∷ "creates=00000000" ∷ "risk=0"
    ∷ "name=hub" ∷ "form=go:2" ∷ "lab=00000000" ∷ "pos=00000000" ∷ "neg=00000001" ∷ "creates=00000000" ∷ "risk=0"
    ∷ "name=split" ∷ "form=both:1,3" ∷ "lab=00000001" ∷ "pos=00000001" ∷ "neg=00000001" ∷ "creates=00000001" ∷ "risk=0"
    ∷ "name=reader" ∷ "form=end" ∷ "lab=00000001" ∷ "pos=00000000" ∷ "neg=00000000" ∷ "creates=00000000" ∷ "risk=1"
    ∷ []

-- Its templates by name.
abbrev pub boot : ℕ
boot = 0

abbrev pub hub : ℕ
hub = 1

abbrev pub split : ℕ
split = 2

abbrev pub reader : ℕ
reader = 3

unfoldable pub base_policy : List String
base_policy = "assertions=1" ∷ "kind=secrecy" ∷ "source=3" ∷ "sink=3" ∷ "anc=3" ∷ "declass=0000000000000007" ∷ []

-- The key of a line, with its equals sign.
unfoldable pub key_of : String → List ℕ
key_of line = take (before 61 (bytes line) + 1) (bytes line)

-- The lines with this one in the place of the first that has its key, after so many lines.
unfoldable pub changed_after : ℕ → String → List String → List String
changed_after n line [] = []
changed_after zero line (old ∷ rest) = cond (starts_with (key_of line) (bytes old)) (line ∷ rest) (old ∷ changed_after zero line rest)
changed_after (suc n) line (old ∷ rest) = old ∷ changed_after n line rest

-- So before the templates and the assertions, in template X, in assertion i.
abbrev pub heading : String → List String → List String
heading = changed_after 0

abbrev pub changing : ℕ → String → List String → List String
changing X = changed_after (plan_header + template_lines * X)

abbrev pub asserting : ℕ → String → List String → List String
asserting i = changed_after (policy_header + assertion_lines * i)

-- The base policy with a prot added.
unfoldable pub with_prot : String → String → String → List String
with_prot source sink anc = heading "assertions=2" base_policy ++ ("kind=prot" ∷ source ∷ sink ∷ anc ∷ "declass=0000000000000000" ∷ [])

-- Case d, and case e, which adds pos of 0 and 1.
unfoldable pub plan_d : List String
plan_d = changing split "creates=00000000" base_plan

unfoldable pub plan_e : List String
plan_e = changing boot "pos=00000001" (changing hub "pos=00000001" plan_d)

-- A plan of 64 templates, their names two letters from aa on.
unfoldable pub full_plan : List ℕ
full_plan = bytes "templates=64\nidentifiers=0\n" ++ named 64
  where
    one : ℕ → List ℕ
    one i = bytes "name=" ++ ((97 + i / 26) ∷ (97 + i % 26) ∷ bytes "\nform=end\nlab=00000000\npos=00000000\nneg=00000000\ncreates=00000000\nrisk=0\n")

    joined : List (List ℕ) → List ℕ
    joined [] = []
    joined (x ∷ rest) = x ++ joined rest

    named : ℕ → List ℕ
    named n = joined (tabulate n one)
