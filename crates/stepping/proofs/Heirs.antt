-- The children of a step, each a number beside a template: what the machine asks of the numbers alone, and makes of them.
use Prim.Native.Nat.{ℕ, suc, ◌<◌}
use mathlib.Core.Path.{◌≡◌, refl, sym, ap, ap₂, ◌∙◌}
use mathlib.Core.Bool.{Bool, true, ◌&&◌}
use mathlib.Core.List.{List, [], ◌∷◌, map}
use native.Mathlib.Numerals.{add-one}
use lib.Dec.{ltb}
use borrow.Author.Tests.{ltb-true}
use Rattle.std.specs.List.{AllZip}
use Rattle.lists.specs.Numbers.{all}
use Rattle.lists.proofs.Tests.{and_left, and_right}
use Rattle.plan.specs.declared.{Plan.{Plan}, Template.{Template}}
use Rattle.plan.specs.Plan.{at, creates}
use Rattle.planrow.specs.Lookup.{template_at}
use Rattle.machine.specs.Machine.{Process, tag, may_become, child, spawn}
use Rattle.tagrows.specs.Rows.{child_tag}
use Rattle.population.specs.declared.Child.{Child}
use Rattle.admission.specs.Admission.{innocent, fitting, all_fitting}
use Rattle.spawning.specs.Spawning.{newborn, newborns}

-- The child of that number by a plan, and by a row.
abbrev pub of_plan : Plan → ℕ → Child
of_plan plan Y = record { number = Y; template = at plan Y }

abbrev pub of_row : List ℕ → ℕ → Child
of_row row Y = record { number = Y; template = template_at row Y }

-- They are one where the row stands for the plan, up to the number of its templates.
pub same_children : (plan : Plan) (row : List ℕ) (n : ℕ) (ys : List ℕ) → all (λ Y. ltb Y n) ys ≡ true
    → ((Y : ℕ) → Y < n → template_at row Y ≡ at plan Y) → map (of_row row) ys ≡ map (of_plan plan) ys
unfolding all
same_children plan row n [] e h = refl
same_children plan row n (Y ∷ ys) e h =
    ap₂ (λ (t : Template) (rest : List Child). record { number = Y; template = t } ∷ rest) (h Y (ltb-true Y n (and_left (ltb Y n) _ e)))
    (same_children plan row n ys (and_right (ltb Y n) _ e) h)

pub all_become : (plan : Plan) (label X : ℕ) (ys : List ℕ)
    → all (may_become plan label X) ys ≡ all_fitting plan.identifiers label (at plan X) (map (of_plan plan) ys)
unfolding all may_become all_fitting fitting innocent
all_become plan label X [] = refl
all_become plan label X (Y ∷ ys) = ap (λ (b : Bool). may_become plan label X Y && b) (all_become plan label X ys)

pub spawned : (plan : Plan) (p : Process) (next : ℕ) (ys : List ℕ) → spawn plan p next ys ≡ newborns plan.identifiers p.tags next (map (of_plan plan) ys)
unfolding spawn newborns child newborn creates tag child_tag
spawned plan p next [] = refl
spawned plan p next (Y ∷ ys) =
    ap (λ (ps : List Process). child plan p next Y ∷ ps)
    (spawned plan p (suc next) ys ∙ ap (λ (n : ℕ). newborns plan.identifiers p.tags n (map (of_plan plan) ys)) (sym (add-one next)))

-- What a closure makes of each number, where that is the child of it.
pub mapped : (R : ℕ → Child → Type 0) (f : ℕ → Child) (ys : List ℕ) (born : List Child) → ((Y : ℕ) (child : Child) → R Y child → child ≡ f Y)
    → AllZip R ys born → born ≡ map f ys
mapped R f [] [] h z = refl
mapped R f [] (child ∷ born) h z = absurd z
mapped R f (Y ∷ ys) [] h z = absurd z
mapped R f (Y ∷ ys) (child ∷ born) h z = ap₂ ◌∷◌ (h Y child z.0) (mapped R f ys born h z.1)
