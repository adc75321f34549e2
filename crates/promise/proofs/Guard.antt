-- What stands in the way of knowledge: for one assertion, a fact (Safe) of what a live process wears that knows a Source
-- process, and what remains of it (Left) once the process has ended. Knowledge.antt shows for any guard that it
-- is kept; here is the guard of a secrecy assertion. Another kind of assertion adds a guard and leaves all else as it is.
use Prim.Native.Nat.{ℕ, ◌<◌}
use mathlib.Core.Path.{◌≡◌, refl, sym, ap, ◌∙◌}
use mathlib.Core.Logic.{◌≢◌, ◌⊎◌, inl, inr}
use mathlib.Core.List.{List}
use mathlib.Core.Bool.{Bool, true, false, cond, true≢false}
use Rattle.lists.proofs.Put.{same?}
use Rattle.lists.proofs.Tabulate.{get_or-tabulate}
use Rattle.mask.specs.Mask.{has}
use Rattle.plan.specs.declared.Plan.{Plan}
use Rattle.plan.specs.declared.Assertion.{Assertion}
use Rattle.plan.specs.Plan.{at, creates}
use Rattle.plan.specs.Range.{InRange}
use Rattle.rules.specs.Rules.{Serves}
use Rattle.rules.specs.Judge.{wearable}
use Rattle.machine.specs.Machine.{Process, tag, child, movable, label_with, relabelled}
use Rattle.machine.proofs.Sending.{Worn, worn, tag_of, Passing}
use Rattle.machine.proofs.Told.{Moving, label_set, label_kept}
use Rattle.promise.specs.History.{Node, Member, lineage}
use Rattle.promise.proofs.Accepted.{Passes, stays, unmade, lasts}
use Rattle.promise.proofs.Lineage.{maker}
use Rattle.promise.proofs.Family.{Fits}

-- The fact that guards one assertion's Source processes, and that creation, birth, delivery and moves keep it.
pub record Guard (plan : Plan) : Type 1 where
  pub source : ℕ
  pub declass : ℕ
  pub clear : has source declass ≡ false
  -- Of what one wears that knows the Source process with that lineage.
  pub Safe : Worn → List Node → Type 0
  -- Of a process at a template, with its lineage, and of the Source process's lineage; it needs no live process.
  pub Left : ℕ → List Node → List Node → Type 0
  pub left : (x : ℕ) (p : Process) (m : Member) (source : List Node) → Fits plan x p m
      → Safe (worn p) source → Left m.template (lineage x m) source
  -- A Source process is safe for itself from its creation.
  pub own : (x : ℕ) (p : Process) (m : Member) → Fits plan x p m → m.moved ≡ false → m.template ≡ source → Safe (worn p) (lineage x m)
  -- Outside Declass a child is as safe as its parent, a receiver as the sender, and a process after a move as before.
  pub inherit : (c Y : ℕ) (p : Process) (source : List Node) → has p.template declass ≡ false → has Y declass ≡ false
      → Passes plan p.label p.template Y → Safe (worn p) source → Safe (worn (child plan p c Y)) source
  pub deliver : (v w : Worn) (source : List Node) → Passing plan v w → Safe v source → Safe w source
  pub move : (p : Process) (present : Bool) (i : ℕ) (source : List Node) → has p.template declass ≡ false
      → Moving plan p present i → Safe (worn p) source → Safe (worn (relabelled p (label_with present p.label i))) source

-- ---- a secrecy assertion

-- The identifier t of rule 17 stands in the label, and its tag is that of the Source process. What remains: the tags
-- are equal as makers, and t may be worn at the process's template.
module _ (plan : Plan) (range : InRange plan) (a : Assertion) (t : ℕ) (below : t < plan.identifiers) (serves : Serves plan a t) where
  -- A child outside Declass keeps the identifier (rule 13) and does not make it afresh (rule 16).
  pub safe_child : (c Y : ℕ) (p : Process) (source : List Node) → has Y a.declass ≡ false → Passes plan p.label p.template Y
      → (has t p.label ≡ true) × (tag p t ≡ maker (creates plan t) source)
      → (has t (child plan p c Y).label ≡ true) × (tag (child plan p c Y) t ≡ maker (creates plan t) source)
  unfolding child tag creates
  safe_child c Y p source outside passes safe = (
    stays plan p.label p.template Y passes t below safe.0 (lasts plan range a t serves Y outside),
    get_or-tabulate plan.identifiers (λ j. cond (creates plan j Y) c (tag p j)) t 0 below
        ∙ (ap (λ (b : Bool). cond b c (tag p t)) (unmade plan p.label p.template Y passes t below safe.0) ∙ safe.1),
  )

  -- A process outside Declass cannot lower it.
  pub safe_move : (p : Process) (present : Bool) (i : ℕ) → has p.template a.declass ≡ false
      → Moving plan p present i → has t p.label ≡ true → has t (label_with present p.label i) ≡ true
  unfolding movable
  safe_move p present i outside moving safe = pick (same? t i)
    where
      raised : t ≡ i → (b : Bool) → Moving plan p b i → b ≡ true
      raised q true may = refl
      raised q false may = absurd (true≢false (sym (rw (← q) at may.allowed) ∙ lasts plan range a t serves p.template outside))

      pick : (t ≡ i) ⊎ (t ≢ i) → has t (label_with present p.label i) ≡ true
      pick (inl q) = rw q (label_set present p.label i ∙ raised q present moving)
      pick (inr h) = label_kept present p.label i t h ∙ safe

  -- The guard of the assertion.
  unfoldable pub secrecy_guard : has a.source a.declass ≡ false → Guard plan
  unfolding tag
  secrecy_guard clear = record {
    source = a.source;
    declass = a.declass;
    clear = clear;
    Safe = λ v source. (has t v.label ≡ true) × (tag_of v t ≡ maker (creates plan t) source);
    Left = λ X l source. (maker (creates plan t) l ≡ maker (creates plan t) source) × (wearable plan X t ≡ true);
    left = λ x p m source fit safe. (sym (fit.tags t below) ∙ safe.1, fit.within t below safe.0);
    own = λ x p m fit unmoved at_source. (fit.unmoved unmoved t below ∙ rw at_source serves.worn, fit.tags t below);
    inherit = λ c Y p source parent outside passes safe. safe_child c Y p source outside passes safe;
    deliver = λ v w source passing safe. let r = passing.labels t below safe.0 in (r.0, sym r.1 ∙ safe.1);
    move = λ p present i source outside moving safe. (safe_move p present i outside moving safe.0, safe.1);
  }
