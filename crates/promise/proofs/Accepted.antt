-- What an accepted plan and policy give, in the form that the other files use: rules 12, 13 and 16 between a label and
-- the template of a child, on every edge; and an identifier for each secrecy. Places past the plan's count are blank,
-- so no bound on templates is left.
use Prim.Native.Nat.{ℕ, ◌≤◌, ◌<◌}
use mathlib.Core.Path.{◌≡◌, refl, sym, ap, subst, ◌∙◌}
use mathlib.Core.Logic.{⊎_elim}
use mathlib.Core.Bool.{Bool, true, false, not, ◌&&◌, true≢false, false≢true}
use mathlib.Core.List.{List, [], ◌∷◌}
use borrow.Author.Tests.{not-true}
use Rattle.lists.specs.Numbers.{all}
use Rattle.lists.proofs.Tests.{lt_or_le, and_left, and_right, and_of}
use Rattle.lists.proofs.Every.{every_at, every_of}
use Rattle.mask.specs.Mask.{has}
use Rattle.mask.proofs.Items.{has_none}
use Rattle.plan.specs.declared.Template.{Template}
use Rattle.plan.specs.declared.Plan.{Plan}
use Rattle.plan.specs.declared.Assertion.{Assertion}
use Rattle.plan.specs.declared.Policy.{Policy}
use Rattle.plan.specs.Plan.{at, successors, Among, Successor}
use Rattle.plan.specs.Range.{InRange}
use Rattle.rules.specs.Rules.{Kept, Each, RowHolds, EveryRule, Serves}
use Rattle.rules.specs.Judge.{EdgeRule, step_rules}
use Rattle.rules.proofs.Edges.{step_rows}
use Rattle.machine.specs.Machine.{may_become}
use Rattle.plan.proofs.Among.{among_all, all_among}

-- ---- rules 12, 13 and 16

-- A process at X with that label may have a child at Y: each rule that a step asks holds of them.
abbrev pub Passes : Plan → ℕ → ℕ → ℕ → Type 0
Passes plan label X Y = Each (λ r. Kept plan (r.offends label (at plan X) (at plan Y))) step_rules

-- The same of each child.
abbrev pub AllPass : Plan → ℕ → ℕ → List ℕ → Type 0
AllPass plan label X templates = (Y : ℕ) → Among Y templates → Passes plan label X Y

module _ (plan : Plan) (label X Y : ℕ) (passes : Passes plan label X Y) (i : ℕ) (h : i < plan.identifiers) (worn : has i label ≡ true) where
  -- Rule 13 as a fact: what stands in the label and not in neg Y stands in lab Y.
  pub stays : has i (at plan Y).neg ≡ false → has i (at plan Y).lab ≡ true
  unfolding step_rules
  stays n = go (has i label) (has i (at plan Y).neg) (has i (at plan Y).lab) (passes.1.0 i h) worn n
    where
      go : (a b c : Bool) → ((a && not b) && not c) ≡ false → a ≡ true → b ≡ false → c ≡ true
      go true true c e p q = absurd (true≢false q)
      go true false true e p q = refl
      go true false false e p q = absurd (true≢false e)
      go false b c e p q = absurd (false≢true p)

  -- Rule 16 as a fact: Y makes nothing afresh that stands in the label.
  pub unmade : has i (at plan Y).creates ≡ false
  unfolding step_rules
  unmade = go (has i (at plan Y).creates) (has i label) (passes.1.1.0 i h) worn
    where
      go : (a b : Bool) → (a && b) ≡ false → b ≡ true → a ≡ false
      go true b e p = absurd (true≢false (sym p ∙ e))
      go false b e p = refl

-- Labels with the same identifiers pass alike.
pub passes_alike : (plan : Plan) (label other X Y : ℕ) → ((i : ℕ) → i < plan.identifiers → has i label ≡ has i other)
    → Passes plan other X Y → Passes plan label X Y
unfolding step_rules
passes_alike plan label other X Y same passes =
    (λ i h. rw (same i h) (passes.0 i h), (λ i h. rw (same i h) (passes.1.0 i h), (λ i h. rw (same i h) (passes.1.1.0 i h), tt)))

-- ---- the machine's test for refusal 25

module _ (plan : Plan) (label X : ℕ) where
  -- Identifier i does nothing against the rows.
  abbrev innocent : ℕ → ℕ → List EdgeRule → Bool
  innocent Y i = all (λ (r : EdgeRule). not (r.offends label (at plan X) (at plan Y) i))

  innocent_kept : (Y : ℕ) (rows : List EdgeRule) → ((i : ℕ) → i < plan.identifiers → innocent Y i rows ≡ true)
      → Each (λ r. Kept plan (r.offends label (at plan X) (at plan Y))) rows
  unfolding all
  innocent_kept Y [] e = tt
  innocent_kept Y (r ∷ rows) e = (
    λ i h. not-true (r.offends label (at plan X) (at plan Y) i) (and_left _ (innocent Y i rows) (e i h)),
    innocent_kept Y rows (λ i h. and_right (not (r.offends label (at plan X) (at plan Y) i)) (innocent Y i rows) (e i h)),
  )

  kept_innocent : (Y : ℕ) (rows : List EdgeRule) → Each (λ r. Kept plan (r.offends label (at plan X) (at plan Y))) rows
      → (i : ℕ) → i < plan.identifiers → innocent Y i rows ≡ true
  unfolding all
  kept_innocent Y [] k i h = refl
  kept_innocent Y (r ∷ rows) k i h =
      and_of (not (r.offends label (at plan X) (at plan Y) i)) (innocent Y i rows) (ap not (k.0 i h)) (kept_innocent Y rows k.1 i h)

  may_passes : (Y : ℕ) → may_become plan label X Y ≡ true → Passes plan label X Y
  unfolding may_become
  may_passes Y e = innocent_kept Y step_rules (every_at plan.identifiers (λ i. innocent Y i step_rules) e)

  passes_may : (Y : ℕ) → Passes plan label X Y → may_become plan label X Y ≡ true
  unfolding may_become
  passes_may Y passes = every_of plan.identifiers (λ i. innocent Y i step_rules) (kept_innocent Y step_rules passes)

  -- Where the test passes for all children, each may be,
  pub all_passes : (templates : List ℕ) → all (may_become plan label X) templates ≡ true → AllPass plan label X templates
  all_passes templates e Y a = may_passes Y (among_all (may_become plan label X) templates e Y a)

  -- and back.
  pub passes_all : (templates : List ℕ) → AllPass plan label X templates → all (may_become plan label X) templates ≡ true
  passes_all templates h = all_among (may_become plan label X) templates (λ Y a. passes_may Y (h Y a))

-- ---- every edge, and every template outside Declass

module _ (plan : Plan) (range : InRange plan) where
  no_edge : (X : ℕ) → plan.count ≤ X → (Y : ℕ) → Successor plan X Y → ⊥
  unfolding successors
  no_edge X h Y s = subst (λ (t : Template). Among Y (successors t.form)) (range.unused X h) s

  -- A template that has a successor is one of the plan's.
  pub edge-below : (X Y : ℕ) → Successor plan X Y → X < plan.count
  edge-below X Y s = ⊎_elim (λ l. l) (λ h. absurd (no_edge X h Y s)) (lt_or_le X plan.count)

  -- Rules 12, 13 and 16 hold of every edge.
  pub edges_pass : (policy : Policy) → EveryRule plan policy → (X Y : ℕ) → Successor plan X Y → Passes plan (at plan X).lab X Y
  edges_pass policy rules X Y s = step_rows (RowHolds plan X Y) (rules.edges X Y (edge-below X Y s) s)

  -- The identifier that serves a secrecy stands in no neg of a template outside Declass.
  pub lasts : (a : Assertion) (t : ℕ) → Serves plan a t → (X : ℕ) → has X a.declass ≡ false → has t (at plan X).neg ≡ false
  lasts a t serves X d = ⊎_elim (λ l. serves.lasting X l d)
      (λ h. subst (λ (s : Template). has t s.neg ≡ false) (sym (range.unused X h)) (has_none t)) (lt_or_le X plan.count)
