-- What stands at a place of a plan and of a policy (document 01, "The two texts", "Routes"), and when a template
-- fits (20). The types are the code's own.
-- Believed: everything here. Proved against it: crates plan, planrow and planfit.
use Rattle.std.specs.Prelude.{ℕ, ◌^◌}
use mathlib.Core.{Path.{◌≡◌}, Logic.{◌⊎◌}, Bool.{Bool, false, ◌&&◌}, List.{List, [], ◌∷◌}}
use lib.{Dec.{ltb}, ListN.{get_or}}
use Rattle.lists.specs.Numbers.{all}
use Rattle.mask.specs.Mask.{has}
use Rattle.plan.specs.declared.{Form.{Form, TheVariants.{End, Go, Either, Both}}, Template.{Template}}
use Rattle.plan.specs.declared.{Plan.{Plan}, Kind.TheVariants.{Secrecy}, Assertion.{Assertion}, Policy.{Policy}}

-- What stands at a place that no line of a text filled.
abbrev pub blank : Template
blank = record { form = End; lab = 0; pos = 0; neg = 0; creates = 0; risk = false }

abbrev pub blank_assertion : Assertion
blank_assertion = record { kind = Secrecy; source = 0; sink = 0; anc = 0; declass = 0 }

-- Template X of a plan.
unfoldable pub at : Plan → ℕ → Template
at plan X = get_or plan.templates X blank

-- The assertion at a place, from 0.
unfoldable pub assertion_at : Policy → ℕ → Assertion
assertion_at policy i = get_or policy.assertions i blank_assertion

-- "Y (and Z) are the successors of a template; `end` has none."
unfoldable pub successors : Form → List ℕ
successors End = []
successors (Go Y) = Y ∷ []
successors (Either Y Z) = Y ∷ Z ∷ []
successors (Both Y Z) = Y ∷ Z ∷ []

-- lab, pos, neg and creates, in the order of their lines.
unfoldable pub masks : Template → List ℕ
masks t = t.lab ∷ t.pos ∷ t.neg ∷ t.creates ∷ []

-- A template that 20 does not refuse ("a plan's successor not below N", "a mask [..] of the plan beyond M").
unfoldable pub template_fits : ℕ → ℕ → Template → Bool
template_fits N M t = all (λ Y. ltb Y N) (successors t.form) && all (λ mask. ltb mask (2 ^ M)) (masks t)

-- x stands in a list.
abbrev pub Among : ℕ → List ℕ → Type 0
Among x [] = ⊥
Among x (y ∷ l) = (x ≡ y) ⊎ Among x l

-- Y is a successor of template X.
abbrev pub Successor : Plan → ℕ → ℕ → Type 0
Successor plan X Y = Among Y (successors (at plan X).form)

-- "C is the template that creates identifier t, if there is one": whether X is C.
-- Rule 11 leaves at most one such template.
unfoldable pub creates : Plan → ℕ → ℕ → Bool
creates plan t X = has t (at plan X).creates
