-- The two texts as they are written (document 01, "The two texts"): the format a second time, as a printer.
-- Believed in the place of the parser, for texts that read: nothing of the parser stands here, and Format.antt says that the
-- texts that read are these and no others.
use Prim.Native.{Nat.{ℕ}, String.{String}}
use mathlib.Core.{Bool.{Bool, true, false}, List.{List, [], ◌∷◌, ◌++◌, flatten}}
use Rattle.std.specs.Prelude.{get_or}
use Rattle.lists.specs.Numbers.{tabulate}
use Rattle.numerals.specs.Numerals.{spell, decimal_of}
use Rattle.plan.specs.declared.{Form.{Form, TheVariants.{End, Go, Either, Both}}, Template.{Template}, Plan.{Plan}}
use Rattle.plan.specs.declared.{Kind.{Kind, TheVariants.{Secrecy, Prot}}, Assertion.{Assertion}, Policy.{Policy}}
use Rattle.plan.specs.Plan.{at, assertion_at}
use Rattle.scan.specs.Bytes.{bytes}

-- A key with its equals sign, the field, and the end: "each line ended by byte 10".
unfoldable pub line_of : String → List ℕ → List ℕ
line_of key field = bytes key ++ field ++ (10 ∷ [])

-- "Masks are lowercase hexadecimal", of so many digits.
unfoldable pub mask_of : ℕ → ℕ → List ℕ
mask_of digits m = spell 16 digits m

-- "One of `end`, `go:Y`, `either:Y,Z`, `both:Y,Z`."
unfoldable pub form_of : Form → List ℕ
form_of End = bytes "end"
form_of (Go Y) = bytes "go:" ++ decimal_of Y
form_of (Either Y Z) = bytes "either:" ++ (decimal_of Y ++ (bytes "," ++ decimal_of Z))
form_of (Both Y Z) = bytes "both:" ++ (decimal_of Y ++ (bytes "," ++ decimal_of Z))

-- "`0` or `1` (1: its processes may be taken over)."
unfoldable pub risk_of : Bool → List ℕ
risk_of false = bytes "0"
risk_of true = bytes "1"

-- "`secrecy` or `prot`."
unfoldable pub kind_of : Kind → List ℕ
kind_of Secrecy = bytes "secrecy"
kind_of Prot = bytes "prot"

-- "For templates 0 to N-1 seven lines in this order"; the masks "8 digits each".
unfoldable pub print_template : List ℕ → Template → List ℕ
print_template name t =
    line_of "name=" name ++ line_of "form=" (form_of t.form)
    ++ line_of "lab=" (mask_of 8 t.lab) ++ line_of "pos=" (mask_of 8 t.pos)
    ++ line_of "neg=" (mask_of 8 t.neg) ++ line_of "creates=" (mask_of 8 t.creates) ++ line_of "risk=" (risk_of t.risk)

-- "`templates=` N (1 to 64), `identifiers=` M (0 to 32)", then the templates. A plan keeps no names: they are given with it.
unfoldable pub print_plan : Plan → List (List ℕ) → List ℕ
print_plan plan names =
    line_of "templates=" (decimal_of plan.count) ++ line_of "identifiers=" (decimal_of plan.identifiers)
    ++ flatten (tabulate plan.count (λ X. print_template (get_or names X []) (at plan X)))

-- "For each five lines"; the declass "16 digits over templates".
unfoldable pub print_assertion : Assertion → List ℕ
print_assertion a =
    line_of "kind=" (kind_of a.kind) ++ line_of "source=" (decimal_of a.source) ++ line_of "sink=" (decimal_of a.sink)
    ++ line_of "anc=" (decimal_of a.anc) ++ line_of "declass=" (mask_of 16 a.declass)

-- "`assertions=` K (0 to 32)", then the assertions.
unfoldable pub print_policy : Policy → List ℕ
print_policy policy =
    line_of "assertions=" (decimal_of policy.count)
    ++ flatten (tabulate policy.count (λ i. print_assertion (assertion_at policy i)))
