-- What a plan that passes the machine's test gives. It names no template that it lacks: not where a process stands, not
-- as a successor, not for a child of a step; and it gives no label beyond its identifiers.
use Prim.Native.Nat.{ℕ, ◌^◌, ◌≤◌, ◌<◌}
use mathlib.Core.Path.{◌≡◌, refl}
use mathlib.Core.Logic.{◌⊎◌, inl, inr}
use mathlib.Core.Bool.{Bool, true, false, cond, ◌&&◌}
use mathlib.Core.List.{List}
use lib.Dec.{eqb, leb, ltb}
use borrow.Author.Tests.{ltb-true, leb-true, lt-ltb, le-leb}
use Rattle.lists.specs.Numbers.{all}
use Rattle.lists.proofs.Tests.{and_left, and_right, and_three, and_of}
use Rattle.lists.proofs.Every.{every_at, every_of}
use Rattle.plan.specs.declared.{Form.{Form, TheVariants.{End, Go, Either, Both}}, Plan.{Plan}}
use Rattle.plan.specs.Plan.{at, successors, masks, template_fits, Among}
use Rattle.plan.specs.Range.{InRange}
use Rattle.plan.proofs.Among.{among_all, all_among}
use Rattle.plan.proofs.Fitting.{successors_pass, successor_fits, mask_fits}
use Rattle.text.specs.Reading.{no_plan}
use Rattle.machine.specs.Machine.{Process, plan_fits, process_fits, children}

-- ---- the children of a step

-- The templates of the children that a step at template X makes.
abbrev pub children_at : Plan → ℕ → ℕ → List ℕ
children_at plan X branch = children (at plan X).form branch

-- What is so of each successor is so of each child.
pub children_are : (P : ℕ → Type 0) (form : Form) (branch : ℕ) → ((Y : ℕ) → Among Y (successors form) → P Y)
    → (Y : ℕ) → Among Y (children form branch) → P Y
unfolding children successors
children_are P End branch h Y a = absurd a
children_are P (Go Z) branch h Y a = h Y a
children_are P (Either Z W) branch h Y a = h Y (pick (eqb branch 0) a)
  where
    pick : (c : Bool) → (Y ≡ cond c Z W) ⊎ ⊥ → (Y ≡ Z) ⊎ ((Y ≡ W) ⊎ ⊥)
    pick true (inl e) = inl e
    pick true (inr z) = absurd z
    pick false a = inr a
children_are P (Both Z W) branch h Y a = h Y a

-- A test that the successors pass the children pass.
pub children_fit : (n branch : ℕ) (form : Form) → all (λ Y. ltb Y n) (successors form) ≡ true → all (λ Y. ltb Y n) (children form branch) ≡ true
children_fit n branch form e =
    all_among (λ Y. ltb Y n) (children form branch)
    (children_are (λ (Y : ℕ). ltb Y n ≡ true) form branch (among_all (λ Y. ltb Y n) (successors form) e))

-- ---- a plan that fits

-- A process that fits stands at a template of the plan.
pub process-template : (plan : Plan) (next : ℕ) (p : Process) → process_fits plan next p ≡ true → p.template < plan.count
unfolding process_fits
process-template plan next p e =
    ltb-true p.template plan.count (and_left (ltb p.template plan.count) _ (and_right (ltb p.serial next) _ e))

module _ (plan : Plan) (e : plan_fits plan ≡ true) where
  counts : (ltb 0 plan.count ≡ true) × (leb plan.count 64 ≡ true) × (leb plan.identifiers 32 ≡ true)
  unfolding plan_fits
  counts = and_three _ _ _ (and_left (ltb 0 plan.count && (leb plan.count 64 && leb plan.identifiers 32)) _ e)

  -- The plan has a root, at most 64 templates and at most 32 identifiers.
  pub plan_rooted : 0 < plan.count
  plan_rooted = ltb-true 0 plan.count counts.0

  pub fitting_count : plan.count ≤ 64
  fitting_count = leb-true plan.count 64 counts.1

  pub plan_few : plan.identifiers ≤ 32
  plan_few = leb-true plan.identifiers 32 counts.2

  -- Each template fits.
  pub template_fits_lem : (X : ℕ) → X < plan.count → template_fits plan.count plan.identifiers (at plan X) ≡ true
  unfolding plan_fits
  template_fits_lem X h =
      every_at plan.count (λ X. template_fits plan.count plan.identifiers (at plan X))
      (and_right (ltb 0 plan.count && (leb plan.count 64 && leb plan.identifiers 32)) _ e) X h

  -- The successors of a template are templates of the plan,
  pub successors_fit : (X : ℕ) → X < plan.count → all (λ Y. ltb Y plan.count) (successors (at plan X).form) ≡ true
  successors_fit X h = successors_pass plan.count plan.identifiers (at plan X) (template_fits_lem X h)

  -- so those of a step's children are,
  pub child-below : (X branch : ℕ) → X < plan.count → (Y : ℕ) → Among Y (children_at plan X branch) → Y < plan.count
  child-below X branch h =
      children_are (λ Y. Y < plan.count) (at plan X).form branch
      (successor_fits plan.count plan.identifiers (at plan X) (template_fits_lem X h))

  -- and the label of each is within the plan's identifiers.
  pub lab_below : (X : ℕ) → X < plan.count → (at plan X).lab < 2 ^ plan.identifiers
  unfolding masks
  lab_below X h = mask_fits plan.count plan.identifiers (at plan X) (template_fits_lem X h) (at plan X).lab (inl refl)

-- A plan in range fits.
pub range_fits : (plan : Plan) → InRange plan → plan_fits plan ≡ true
unfolding plan_fits
range_fits plan range =
    and_of _ _
    (and_of _ _ (lt-ltb 0 plan.count range.rooted)
    (and_of _ _ (le-leb plan.count 64 range.templates) (le-leb plan.identifiers 32 range.identifiers)))
    (every_of plan.count (λ X. template_fits plan.count plan.identifiers (at plan X)) range.each)

-- What a refused text hands back does not: it has no root.
pub none_unfit : plan_fits no_plan ≡ false
unfolding plan_fits
none_unfit = refl
