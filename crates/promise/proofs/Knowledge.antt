-- Who knows whom, under any guard: whoever knows a Source process is outside Declass and has kept the guard's fact, and
-- a live one is safe. As in Family.antt two events are enough, a member that changes and a birth, and a delivery is the
-- first of them.
use Prim.Native.Nat.{ℕ, ◌≤◌, ◌<◌}
use native.Mathlib.Omega.{arith}
use mathlib.Core.Path.{◌≡◌, refl, subst}
use mathlib.Core.Logic.{◌≢◌, ◌⊎◌, inl, inr}
use mathlib.Core.List.{List}
use mathlib.Core.Option.{Option, some}
use mathlib.Core.Bool.{Bool, true, false, not, ◌&&◌, ◌||◌, false≢true}
use lib.Dec.{eqb}
use borrow.Author.Tests.{eqb-true}
use Rattle.lists.specs.Numbers.{put}
use Rattle.lists.proofs.Put.{put_all, put_all₂, put_two, put_id}
use Rattle.mask.specs.Mask.{has}
use Rattle.plan.specs.declared.Plan.{Plan}
use Rattle.machine.specs.Machine.{Process, child}
use Rattle.machine.proofs.Sending.{Worn, worn, Passing}
use Rattle.machine.proofs.Live.{Population}
use Rattle.promise.specs.History.{Node, Member, History, lineage, newborn, touched, inherited, learnt, hear}
use Rattle.promise.proofs.Accepted.{Passes}
use Rattle.promise.proofs.Lineage.{On, on_older}
use Rattle.promise.proofs.Family.{Tagged, Fits, Family, child_fits, unborn}
use Rattle.promise.proofs.Guard.{Guard}

-- ---- where knowledge comes from

or_outside : (a b c : Bool) → (a || (not b && c)) ≡ true → (a ≡ true) ⊎ ((b ≡ false) × (c ≡ true))
or_outside true b c e = inl refl
or_outside false true c e = absurd (false≢true e)
or_outside false false c e = inr (refl, e)

-- A child knows itself and, outside Declass, what its parent knew.
pub inherited_cases : (declass s Y : ℕ) (parent : ℕ → Bool) (y : ℕ) → inherited declass s Y parent y ≡ true
    → (y ≡ s) ⊎ ((has Y declass ≡ false) × (parent y ≡ true))
unfolding inherited
inherited_cases declass s Y parent y e = pick (or_outside (eqb y s) (has Y declass) (parent y) e)
  where
    pick : (eqb y s ≡ true) ⊎ ((has Y declass ≡ false) × (parent y ≡ true))
        → (y ≡ s) ⊎ ((has Y declass ≡ false) × (parent y ≡ true))
    pick (inl q) = inl (eqb-true y s q)
    pick (inr k) = inr k

-- A receiver knows what it knew and, outside Declass, what the sender knows.
pub learnt_cases : (declass X : ℕ) (own sender : ℕ → Bool) (y : ℕ) → learnt declass X own sender y ≡ true
    → (own y ≡ true) ⊎ ((has X declass ≡ false) × (sender y ≡ true))
unfolding learnt
learnt_cases declass X own sender y e = or_outside (own y) (has X declass) (sender y) e

module _ (plan : Plan) (guard : Guard plan) where
  -- A process at X, outside Declass, may take over that another knows y.
  abbrev TakesOver : ℕ → (ℕ → Bool) → ℕ → Type 0
  TakesOver X knows y = (has X guard.declass ≡ false) × (knows y ≡ true)

  -- x knows y: both were made, x is not above y, and if y is a Source process, x has kept what the guard asks.
  abbrev pub Known : ℕ → Member → ℕ → Member → Type 0
  Known x mx y my =
      (mx.born ≡ true) × (my.born ≡ true) × (On x my.above → ⊥)
      × (my.template ≡ guard.source
      → (has mx.template guard.declass ≡ false) × guard.Left mx.template (lineage x mx) (lineage y my))

  -- The same where x does know y.
  abbrev pub Knows : ℕ → Member → ℕ → Member → Type 0
  Knows x mx y my = mx.knows y ≡ true → Known x mx y my

  -- With that knowledge v carries the member y: where y is known, y was made, and if it is a Source process, v is safe for it;
  abbrev pub Carried : Worn → (ℕ → Bool) → ℕ → Member → Type 0
  Carried v knows y my = knows y ≡ true → (my.born ≡ true) × (my.template ≡ guard.source → guard.Safe v (lineage y my))

  -- and so for everybody.
  abbrev pub Carries : History → (ℕ → Bool) → Worn → Type 0
  Carries H knows v = (y : ℕ) → Carried v knows y (H y)

  -- What is found at a serial carries safely what its member knows.
  abbrev pub AllCarry : History → ℕ → Option Process → Member → Type 0
  AllCarry H x v m = (p : Process) → v ≡ some p → Carries H m.knows (worn p)

  -- Everybody's knowledge is so.
  pub record Guarded (P : Population) (H : History) : Type 0 where
    pub known : (x y : ℕ) → Knows x (H x) y (H y)
    pub safe : (x : ℕ) → AllCarry H x (P x) (H x)

  module _ (P : Population) (H : History) (f : Guarded P H) where
    -- A member changes its marks or its knowledge, and its process with it.
    pub guarded_touch : (s : ℕ) (live moved : Bool) (knows : ℕ → Bool) (v : Option Process)
        → ((y : ℕ) → knows y ≡ true → Known s (H s) y (H y))
        → ((p : Process) → v ≡ some p → Carries H knows (worn p))
        → Guarded (put P s v) (put H s (touched (H s) live moved knows))
    guarded_touch s live moved knows v k safe =
        let m : Member = touched (H s) live moved knows in
        record {
          known = put_all₂ Knows H s m
              (λ e. k s e) (λ y h e. k y e) (λ x h e. f.known x s e) (λ x y h h' e. f.known x y e);
          safe = put_two (AllCarry (put H s m)) P H s v m
              (λ p e. put_all (Carried (worn p) knows) H s m (safe p e s) (λ y h. safe p e y))
              (λ x h p e. put_all (Carried (worn p) (H x).knows) H s m (f.safe x p e s) (λ y h. f.safe x p e y));
        }

    module _ (next : ℕ) (g : Family plan next P H) where
      -- The live process q with serial r learns what one that wears v carries.
      pub guarded_hear : (r : ℕ) (knows : ℕ → Bool) (v : Worn) (q : Process) → P r ≡ some q → Passing plan v (worn q) → Carries H knows v
          → Guarded P (hear guard.declass r knows H)
      guarded_hear r knows v q er passing carries = subst (λ (P' : Population). Guarded P' (hear guard.declass r knows H)) (put_id P r)
          (guarded_touch r (H r).live (H r).moved (learnt guard.declass (H r).template (H r).knows knows) (P r)
          (λ y k. known y (cases y k))
          (λ p' e y k. let z : q ≡ p' = cc in ((known y (cases y k)).1, λ t. rw (← z) (safe y t (cases y k)))))
        where
          cases : (y : ℕ) → learnt guard.declass (H r).template (H r).knows knows y ≡ true
              → ((H r).knows y ≡ true) ⊎ TakesOver (H r).template knows y
          cases = learnt_cases guard.declass (H r).template (H r).knows knows

          fit : Fits plan r q (H r)
          fit = g.fits r q er

          safe : (y : ℕ) → (H y).template ≡ guard.source → ((H r).knows y ≡ true) ⊎ TakesOver (H r).template knows y
              → guard.Safe (worn q) (lineage y (H y))
          safe y t (inl k) = (f.safe r q er y k).1 t
          safe y t (inr k) = guard.deliver v (worn q) (lineage y (H y)) passing ((carries y k.1).1 t)

          known : (y : ℕ) → ((H r).knows y ≡ true) ⊎ TakesOver (H r).template knows y → Known r (H r) y (H y)
          known y (inl k) = f.known r y k
          known y (inr k) =
              let born = (carries y k.1).0 in (
                (g.alive r fit.live).0,
                born,
                g.childless r y fit.live born,
                λ t. (k.0, guard.left r q (H r) (lineage y (H y)) fit (safe y t (inr k))),
              )

      -- A child c at Y is born of the process r, which was p.
      pub guarded_birth : (r c Y : ℕ) (p : Process)
          → (H r).born ≡ true → p.template ≡ (H r).template → next ≤ c → Passes plan p.label p.template Y
          → Tagged plan p (lineage r (H r)) → Carries H (H r).knows (worn p)
          → Guarded (put P c (some (child plan p c Y))) (put H c (newborn Y (lineage r (H r)) (inherited guard.declass c Y (H r).knows)))
      guarded_birth r c Y p born template fresh passes tags carries =
          record {
            known = put_all₂ Knows H c m
                (λ e. (refl, refl, (λ o. let q : c < next = on_older next c (lineage r (H r)) (g.route r born).1 o in omega arith), self))
                (λ y h e. other y (taken y h e))
                (λ x h e. absurd (unknown x e)) (λ x y h h' e. f.known x y e);
            safe = put_two (AllCarry (put H c m)) P H c (some (child plan p c Y)) m
                (λ p' e. put_all (Carried (worn p') knows) H c m
                (λ k. (refl, λ t. is p' e (lineage c m) (own t)))
                (λ y h k. ((f.known r y (taken y h k).1).1, λ t. is p' e (lineage y (H y)) (passed y (taken y h k) t))))
                (λ x h p e. put_all (Carried (worn p) (H x).knows) H c m
                (λ k. absurd (unknown x k)) (λ y h. f.safe x p e y));
          }
        where
          knows : ℕ → Bool
          knows = inherited guard.declass c Y (H r).knows

          m : Member
          m = newborn Y (lineage r (H r)) knows

          fit : Fits plan c (child plan p c Y) m
          fit = child_fits plan c Y (lineage r (H r)) p knows tags

          unknown : (x : ℕ) → (H x).knows c ≡ true → ⊥
          unknown x e = unborn plan next P H g c fresh (f.known x c e).1

          own : Y ≡ guard.source → guard.Safe (worn (child plan p c Y)) (lineage c m)
          own t = guard.own c (child plan p c Y) m fit refl t

          self : Y ≡ guard.source → (has Y guard.declass ≡ false) × guard.Left Y (lineage c m) (lineage c m)
          self t = (rw t guard.clear, guard.left c (child plan p c Y) m (lineage c m) fit (own t))

          taken : (y : ℕ) → y ≢ c → knows y ≡ true → TakesOver Y (H r).knows y
          taken y h e = pick (inherited_cases guard.declass c Y (H r).knows y e)
            where
              pick : (y ≡ c) ⊎ TakesOver Y (H r).knows y → TakesOver Y (H r).knows y
              pick (inl q) = absurd (h q)
              pick (inr k) = k

          passed : (y : ℕ) → TakesOver Y (H r).knows y → (H y).template ≡ guard.source → guard.Safe (worn (child plan p c Y)) (lineage y (H y))
          passed y k t = guard.inherit c Y p (lineage y (H y)) (rw template ((f.known r y k.1).3 t).0) k.0 passes ((carries y k.1).1 t)

          other : (y : ℕ) → TakesOver Y (H r).knows y → Known c m y (H y)
          other y k =
              let old = f.known r y k.1 in (
                refl,
                old.1,
                (λ o. let q : c < next = on_older next c (H y).above (g.route y old.1).1.1 o in omega arith),
                λ t. (k.0, guard.left c (child plan p c Y) m (lineage y (H y)) fit (passed y k t)),
              )

          is : (p' : Process) → some (child plan p c Y) ≡ some p' → (l : List Node) → guard.Safe (worn (child plan p c Y)) l → guard.Safe (worn p') l
          is p' e l h = let q : child plan p c Y ≡ p' = cc in rw (← q) h
