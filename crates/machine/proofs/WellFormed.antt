-- Every call leaves a well formed machine well formed, whichever its plan: refusal 20 tests all that the next call needs.
use Prim.Native.Nat.{ℕ, suc, ◌+◌, ◌≤◌, ◌<◌}
use native.Mathlib.Omega.{arith}
use native.Mathlib.Nat.{le_trans}
use mathlib.Core.Path.{◌≡◌, refl, sym, ◌∙◌}
use mathlib.Core.Logic.{◌≢◌, ◌⊎◌, inl, inr}
use mathlib.Core.List.{List, map}
use mathlib.Core.Option.{some}
use mathlib.Core.Bool.{Bool, true, false, not, ◌&&◌}
use lib.Dec.{eqb, ltb}
use lib.ListN.{length, length-append}
use borrow.Author.Tests.{not-false, leb-true, le-leb}
use Rattle.lists.specs.Numbers.{all}
use Rattle.lists.proofs.Tests.{and_both, and_of}
use Rattle.lists.proofs.Every.{every_of}
use Rattle.lists.proofs.Tabulate.{all_tabulate}
use Rattle.lists.proofs.Put.{same?}
use Rattle.mask.specs.Mask.{has}
use Rattle.mask.proofs.Width.{has-below, below_lt}
use Rattle.plan.specs.declared.{Form.{Form, TheVariants.{End, Go, Either, Both}}, Plan.{Plan}}
use Rattle.plan.specs.Plan.{at}
use Rattle.machine.specs.Machine.{Process, tag, Machine, Limits, box_limits, Call, Outcome, plan_fits, process_fits, rising, population_fits}
use Rattle.machine.specs.Machine.{well_formed, find, remove, children, spawn, stepped, label_with, moved, run, root, start}
use Rattle.machine.proofs.Live.{length-remove, length-relabel, length-spawn}
use Rattle.machine.proofs.Templates.{children_at, plan_rooted, child-below, lab_below}
use Rattle.machine.proofs.Told.{Stepping, Moving, label_kept, Told, refuses, steps, delivers, holds, raises, lowers, run_told}
use Rattle.machine.proofs.Rising.{climbs_rising, rising_climbs}
use Rattle.machine.proofs.Ordered.{Ordered, ordered_climbs, ordered_fits, fits_ordered, find_neat, neat_tag}
use Rattle.machine.proofs.Ordered.{ordered_wider, ordered_remove, ordered_append, ordered_relabel, ordered_spawn}

-- Limits that allow fewer processes where they allow more.
abbrev pub Sensible : Limits → Type 0
Sensible limits = (n more : ℕ) → n ≤ more → limits.processes more ≡ true → limits.processes n ≡ true

-- Document 01's are so.
pub box_limits_lem : Sensible box_limits
box_limits_lem n more h e = le-leb n 128 (le_trans h (leb-true more 128 e))

-- What the machine's test says, as facts.
pub record Formed (limits : Limits) (m : Machine) : Type 0 where
  pub fits : plan_fits m.plan ≡ true
  pub early : limits.serials m.next ≡ true
  pub few : limits.processes (length m.live) ≡ true
  pub ordered : Ordered m.plan m.next 0 m.live m.next

-- A well formed machine has these,
pub formed_facts : (limits : Limits) (m : Machine) → well_formed limits m ≡ true → Formed limits m
unfolding well_formed population_fits
formed_facts limits m e =
    let fits = and_both (plan_fits m.plan) _ e in
    let early = and_both (limits.serials m.next) _ fits.1 in
    let few = and_both (limits.processes (length m.live)) _ early.1 in
    let rises = and_both (rising (map (λ p. p.serial) m.live)) (all (process_fits m.plan m.next) m.live) few.1 in
    record {
      fits = fits.0;
      early = early.0;
      few = few.0;
      ordered = fits_ordered m.plan m.next 0 m.live (omega arith) (rising_climbs (map (λ p. p.serial) m.live) rises.0) rises.1;
    }

-- and a machine that has them is well formed.
pub facts_formed : (limits : Limits) (m : Machine) → Formed limits m → well_formed limits m ≡ true
unfolding well_formed population_fits
facts_formed limits m t =
    and_of _ _ t.fits (and_of _ _ t.early
    (and_of _ _ t.few
    (and_of _ _ (climbs_rising 0 (map (λ p. p.serial) m.live) (ordered_climbs m.plan m.next 0 m.next m.live t.ordered))
    (ordered_fits m.plan m.next 0 m.live t.ordered))))

-- ---- each call keeps them

-- One process goes: with at most one child no more live than before, and 23 leaves room for two.
pub few_children : (limits : Limits) → Sensible limits → (form : Form) (branch before left : ℕ)
    → (eqb (length (children form branch)) 2 && not (limits.processes (before + 1))) ≡ false → suc left ≤ before
    → limits.processes before ≡ true → limits.processes (left + length (children form branch)) ≡ true
unfolding children
few_children limits fewer End branch before left e h ok = fewer (left + 0) before (omega arith) ok
few_children limits fewer (Go Y) branch before left e h ok = fewer (left + 1) before (omega arith) ok
few_children limits fewer (Either Y Z) branch before left e h ok = fewer (left + 1) before (omega arith) ok
few_children limits fewer (Both Y Z) branch before left e h ok = fewer (left + 2) (before + 1) (omega arith) (not-false (limits.processes (before + 1)) e)

module _ (limits : Limits) (fewer : Sensible limits) (m : Machine) (t : Formed limits m) where
  module _ (s : ℕ) (p : Process) (e : find s m.live ≡ some p) where
    -- An accepted step keeps them,
    pub formed_step : (branch : ℕ) → Stepping limits m p branch → Formed limits (stepped m s p (children_at m.plan p.template branch))
    unfolding stepped
    formed_step branch stepping =
        let plan : Plan = m.plan in
        let next : ℕ = m.next in
        let templates : List ℕ = children_at plan p.template branch in
        let later : ℕ = next + length templates in
        let found = find_neat plan next s 0 next m.live p e t.ordered in
        let tags : (i : ℕ) → tag p i < later = λ i. let q : tag p i < next = neat_tag plan next p (omega arith) found.0 i in omega arith in
        record {
          fits = t.fits;
          early = stepping.serials;
          few = rw (length-append, length-spawn)
              (few_children limits fewer (at plan p.template).form branch (length m.live) (length (remove s m.live))
              stepping.room (length-remove s m.live p e) t.few);
          ordered = ordered_append plan later 0 next later (remove s m.live) (spawn plan p next templates)
              (ordered_wider plan next later 0 0 next next (remove s m.live) (omega arith) (omega arith) (omega arith)
              (ordered_remove plan next s 0 next m.live t.ordered))
              (ordered_spawn plan t.fits p later tags next templates (omega arith) (child-below plan t.fits p.template branch found.0.template));
        }

    -- and so does an accepted raise or lower.
    pub formed_move : (present : Bool) (i : ℕ) → Moving m.plan p present i → Formed limits (moved m s (label_with present p.label i))
    unfolding moved
    formed_move present i moving = record {
      fits = t.fits;
      early = t.early;
      few = rw length-relabel t.few;
      ordered = ordered_relabel m.plan m.next s label 0 m.next
          (below_lt m.plan.identifiers label (λ j q. pick j q (same? j i))) m.live t.ordered;
    }
      where
        label : ℕ
        label = label_with present p.label i

        pick : (j : ℕ) → has j label ≡ true → (j ≡ i) ⊎ (j ≢ i) → j < m.plan.identifiers
        pick j q (inl r) = rw r moving.below
        pick j q (inr h) =
            has-below m.plan.identifiers p.label j
            (find_neat m.plan m.next s 0 m.next m.live p e t.ordered).0.label (sym (label_kept present p.label i j h) ∙ q)

  -- So after whatever a call comes to.
  pub formed_after : {call : Call} {o : Outcome} → Told limits m call o → Formed limits o.machine
  formed_after (refuses n) = t
  formed_after (steps s branch p e stepping) = formed_step s p e branch stepping
  formed_after (delivers s r p q e f d passing) = t
  formed_after (holds s r p q e f d fails) = t
  formed_after (raises s i p e moving) = formed_move s p e true i moving
  formed_after (lowers s i p e moving) = formed_move s p e false i moving

-- One call, whatever it names.
pub stays_formed : (limits : Limits) → Sensible limits → (m : Machine) (call : Call)
    → well_formed limits m ≡ true → well_formed limits (run limits m call).machine ≡ true
stays_formed limits fewer m call e =
    facts_formed limits (run limits m call).machine (formed_after limits fewer m (formed_facts limits m e) (run_told limits m call))

-- A machine is started well formed on a plan that fits, where the limits allow one process and next serial 1.
pub start_formed : (limits : Limits) → limits.processes 1 ≡ true → limits.serials 1 ≡ true → (plan : Plan) → plan_fits plan ≡ true
    → well_formed limits (start plan) ≡ true
unfolding start root
start_formed limits process serial plan fits = facts_formed limits (start plan) (record {
  fits = fits;
  early = serial;
  few = process;
  ordered = (
    omega arith,
    record {
      template = plan_rooted plan fits;
      label = lab_below plan fits 0 (plan_rooted plan fits);
      tags = all_tabulate (λ t. ltb t 1) plan.identifiers (λ i. 0) ∙ every_of plan.identifiers (λ i. ltb 0 1) (λ i h. refl);
    },
    omega arith,
  );
})
