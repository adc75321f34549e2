-- Each accepted step, delivery and move keeps the family and, under any guard, the guarded knowledge: the machine's list
-- and the history change at the same serials.
use Prim.Native.Nat.{ℕ, ◌+◌, ◌≤◌, ◌<◌}
use mathlib.Core.Path.{◌≡◌, refl, sym, ap, subst, ◌∙◌, fun_ext}
use mathlib.Core.Logic.{◌≢◌, ◌⊎◌, inl, inr}
use mathlib.Core.List.{List, ◌++◌}
use mathlib.Core.Option.{Option, none, some}
use mathlib.Core.Bool.{Bool, true, false, not, ◌&&◌, ◌||◌, beq, true≢false, false≢true}
use lib.ListN.{length}
use Rattle.lists.specs.Numbers.{all, put}
use Rattle.lists.proofs.Put.{put_same, put_all, put_id, same?}
use Rattle.lists.proofs.Tests.{or_right, or_none, and_of}
use Rattle.mask.specs.Mask.{has}
use Rattle.plan.specs.declared.Plan.{Plan}
use Rattle.plan.specs.Plan.{at}
use Rattle.rules.specs.Judge.{wearable}
use Rattle.machine.specs.Machine.{Process, tag, find, remove, may_become, spawn, movable, label_with, relabelled, relabel}
use Rattle.machine.proofs.Sending.{worn}
use Rattle.machine.proofs.Templates.{children_at}
use Rattle.machine.proofs.Told.{Moving, label_set, label_kept}
use Rattle.machine.proofs.Live.{no_some, Population, population, find-remove, find-relabel, arrivals, find-spawn}
use Rattle.promise.specs.History.{Member, History, lineage, touched, retire, births, learnt, hear, mark, changes}
use Rattle.promise.proofs.Accepted.{AllPass, all_passes}
use Rattle.promise.proofs.Lineage.{On}
use Rattle.promise.proofs.Family.{Fits, Family, family_touch, unborn}
use Rattle.promise.proofs.Guard.{Guard}
use Rattle.promise.proofs.Knowledge.{Carried, Guarded, guarded_touch}
use Rattle.promise.proofs.Growth.{Parent, Childless, births_family, births_guarded}

module _ (plan : Plan) (next : ℕ) (live : List Process) (H : History) (g : Family plan next (population live) H) where
  -- Nobody is found at a serial that was not given yet.
  fresh : (k : ℕ) → next ≤ k → find k live ≡ none
  fresh k le = pick (find k live) refl
    where
      pick : (o : Option Process) → find k live ≡ o → find k live ≡ none
      pick none e = e
      pick (some p) e = absurd (unborn plan next (population live) H g k le (g.alive k (g.fits k p e).live).0)

  module _ (s : ℕ) (p : Process) (e : find s live ≡ some p) where
    fit : Fits plan s p (H s)
    fit = g.fits s p e

    -- ---- an accepted step of s, which was p

    abbrev retired : Member
    retired = touched (H s) false (H s).moved (H s).knows

    ended : retire s H s ≡ retired
    ended = put_same H s retired

    family_retire : Family plan next (put (population live) s none) (retire s H)
    family_retire =
        family_touch plan next (population live) H g s false (H s).moved (H s).knows none
        (λ q. absurd (false≢true q)) (λ p q. absurd (no_some p q))

    parent : Parent plan (retire s H) s p
    parent = record {
      born = rw ended (g.alive s fit.live).0;
      ended = rw ended refl;
      template = rw ended fit.template;
      tags = rw ended fit.tags;
    }

    childless : Childless (retire s H) s
    childless =
        put_all (λ (y : ℕ) (my : Member). my.born ≡ true → On s my.above → ⊥) H s retired
        (g.childless s s fit.live) (λ y h. g.childless s y fit.live)

    form : (at plan (retire s H s).template).form ≡ (at plan (H s).template).form
    form = rw ended refl

    -- The machine's list after the step, read by serial.
    fresh_after : (k : ℕ) → next ≤ k → find k (remove s live) ≡ none
    fresh_after k le =
        find-remove k s live
        ∙ put_all (λ (x : ℕ) (o : Option Process). next ≤ x → o ≡ none) (population live) s none (λ _. refl) (λ x h. fresh x) k le

    stepped_list : (branch : ℕ) → population (remove s live ++ spawn plan p next (children_at plan p.template branch))
        ≡ arrivals plan p next (children_at plan (H s).template branch) (put (population live) s none)
    stepped_list branch =
        ap {B = Population} (λ (X : ℕ) (x : ℕ). find x (remove s live ++ spawn plan p next (children_at plan X branch))) fit.template
        ∙ (find-spawn plan p next (children_at plan (H s).template branch) (remove s live) fresh_after
        ∙ ap (arrivals plan p next (children_at plan (H s).template branch)) (fun_ext (λ x. find-remove x s live)))

    -- The family after the step,
    pub family_step : (declass branch : ℕ) → let templates = children_at plan p.template branch in
        Family plan (next + length templates) (population (remove s live ++ spawn plan p next templates))
        (births declass s next (children_at plan (H s).template branch) (retire s H))
    family_step declass branch =
        rw (stepped_list branch, ap (λ (X : ℕ). next + length (children_at plan X branch)) fit.template)
        (births_family plan next (put (population live) s none) (retire s H) family_retire s p parent childless declass
        branch (at plan (H s).template).form form)

    -- and the knowledge.
    pub guarded_step : (guard : Guard plan) → Guarded plan guard (population live) H → (branch : ℕ)
        → let templates = children_at plan p.template branch in
        all (may_become plan p.label p.template) templates ≡ true
        → Guarded plan guard (population (remove s live ++ spawn plan p next templates))
        (births guard.declass s next (children_at plan (H s).template branch) (retire s H))
    guarded_step guard f branch test = rw (stepped_list branch)
        (births_guarded plan next (put (population live) s none) (retire s H) family_retire s p parent childless guard
        (guarded_touch plan guard (population live) H f s false (H s).moved (H s).knows none (f.known s) (λ p q. absurd (no_some p q)))
        (rw ended (put_all (Carried plan guard (worn p) (H s).knows) H s retired (f.safe s p e s) (λ y h. f.safe s p e y)))
        branch (at plan (H s).template).form form
        (subst (λ (X : ℕ). AllPass plan p.label p.template (children_at plan X branch)) fit.template
        (all_passes plan p.label p.template (children_at plan p.template branch) test)))

    -- ---- an accepted raise or lower of s

    module _ (present : Bool) (i : ℕ) (moving : Moving plan p present i) where
      abbrev label : ℕ
      label = label_with present p.label i

      relabelled_list : population (relabel s label live) ≡ put (population live) s (some (relabelled p label))
      relabelled_list = fun_ext (λ x. find-relabel x s label live p e)

      -- An identifier of the new label is the moved one, or as it was.
      abbrev MovedOrKept : ℕ → Type 0
      MovedOrKept j = ((j ≡ i) × (has j label ≡ present)) ⊎ (has j label ≡ has j p.label)

      moved_or_kept : (j : ℕ) → MovedOrKept j
      moved_or_kept j = pick (same? j i)
        where
          pick : (j ≡ i) ⊎ (j ≢ i) → MovedOrKept j
          pick (inl q) = inl (q, ap (λ (k : ℕ). has k label) q ∙ label_set present p.label i)
          pick (inr h) = inr (label_kept present p.label i j h)

      -- A move that changes nothing leaves every identifier as it was.
      unchanged : changes (some p) i present ≡ false → (j : ℕ) → has j label ≡ has j p.label
      unchanged c j = pick (moved_or_kept j)
        where
          same : (a b : Bool) → not (beq a b) ≡ false → b ≡ a
          same true true q = refl
          same true false q = absurd (true≢false q)
          same false true q = absurd (true≢false q)
          same false false q = refl

          pick : MovedOrKept j → has j label ≡ has j p.label
          pick (inl r) = r.1 ∙ (same (has i p.label) present c ∙ ap (λ (k : ℕ). has k p.label) (sym r.0))
          pick (inr r) = r

      abbrev now_moved : Bool
      now_moved = (H s).moved || changes (some p) i present

      move_fits : Fits plan s (relabelled p label) (touched (H s) (H s).live now_moved (H s).knows)
      unfolding tag wearable movable
      move_fits = record {
        live = fit.live;
        template = fit.template;
        tags = fit.tags;
        within = λ j h q. wears j h (moved_or_kept j) q;
        unmoved = λ q j h. let r = or_none (H s).moved (changes (some p) i present) q in unchanged r.1 j ∙ fit.unmoved r.0 j h;
      }
        where
          raised : present ≡ true → has i (at plan (H s).template).pos ≡ true
          raised q = rw fit.template at (subst (λ (b : Bool). has i (movable b (at plan p.template)) ≡ true) q moving.allowed)

          wears : (j : ℕ) → j < plan.identifiers → MovedOrKept j → has j label ≡ true
              → (has j (at plan (H s).template).lab || ((at plan (H s).template).risk && has j (at plan (H s).template).pos)) ≡ true
          wears j h (inl r) q = or_right (has j (at plan (H s).template).lab) _
              (and_of (at plan (H s).template).risk (has j (at plan (H s).template).pos)
              (rw fit.template at moving.risk) (rw r.0 (raised (sym r.1 ∙ q))))
          wears j h (inr r) q = fit.within j h (sym r ∙ q)

      -- The family after the move,
      pub family_move : Family plan next (population (relabel s label live)) (mark s (changes (some p) i present) H)
      family_move = rw relabelled_list
          (family_touch plan next (population live) H g s (H s).live now_moved (H s).knows (some (relabelled p label))
          (λ q. (q, (relabelled p label, refl)))
          (λ p' q. let r : relabelled p label ≡ p' = cc in rw (← r) move_fits))

      -- and the knowledge.
      pub guarded_move : (guard : Guard plan) → Guarded plan guard (population live) H
          → Guarded plan guard (population (relabel s label live)) (mark s (changes (some p) i present) H)
      guarded_move guard f = rw relabelled_list
          (guarded_touch plan guard (population live) H f s (H s).live now_moved (H s).knows (some (relabelled p label)) (f.known s)
          (λ p' q y k. let r : relabelled p label ≡ p' = cc in (
            (f.known s y k).1,
            λ t. rw (← r)
                (guard.move p present i (lineage y (H y)) (rw fit.template ((f.known s y k).3 t).0) moving ((f.safe s p e y k).1 t)),
          )))

  -- ---- a delivery

  -- The family after r learnt something. (The knowledge: guarded_hear of Knowledge.antt.)
  pub family_hear : (declass r : ℕ) (knows : ℕ → Bool) → Family plan next (population live) (hear declass r knows H)
  family_hear declass r knows = subst (λ (P : Population). Family plan next P (hear declass r knows H)) (put_id (population live) r)
      (family_touch plan next (population live) H g r (H r).live (H r).moved
      (learnt declass (H r).template (H r).knows knows) (find r live)
      (λ l. (l, (g.alive r l).1))
      (λ p e. let f = g.fits r p e in record { live = f.live; template = f.template; tags = f.tags; within = f.within; unmoved = f.unmoved }))
