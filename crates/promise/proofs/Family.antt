-- What is so of every process that was ever made, and of the live ones beside it: lineages are routes, any two
-- processes are separated, a live process is above nobody; a live process's tags are its makers, and its label is
-- within what its template may wear, and the template's own where it was not moved. Two events are enough to keep this:
-- one member changes its marks, or a child is born.
use Prim.Native.Nat.{ℕ, suc, ◌≤◌, ◌<◌}
use native.Mathlib.Omega.{arith}
use mathlib.Core.Path.{◌≡◌, refl, sym, ap, ◌∙◌}
use mathlib.Core.Logic.{◌≢◌, inl, inr}
use mathlib.Core.List.{List, ◌∷◌}
use mathlib.Core.Option.{Option, some}
use mathlib.Core.Bool.{Bool, true, false, cond, true≢false}
use Rattle.lists.specs.Numbers.{put}
use Rattle.lists.proofs.Put.{put_all, put_all₂, put_two}
use Rattle.lists.proofs.Tabulate.{get_or-tabulate}
use Rattle.lists.proofs.Tests.{or_left}
use Rattle.mask.specs.Mask.{has}
use Rattle.plan.specs.declared.Plan.{Plan}
use Rattle.plan.specs.Plan.{at, Successor, creates}
use Rattle.rules.specs.Judge.{wearable}
use Rattle.machine.specs.Machine.{Process, tag, child}
use Rattle.machine.proofs.Live.{Population}
use Rattle.promise.specs.History.{Node, node, Member, History, lineage, newborn, touched}
use Rattle.promise.proofs.Lineage.{maker, On, Older, Descent, older_later, on_older}
use Rattle.promise.proofs.Separation.{Over, Separated, swap, over_on}

-- ---- what is so

-- The tags of p are the nearest creators on the lineage.
abbrev pub Tagged : Plan → Process → List Node → Type 0
Tagged plan p l = (i : ℕ) → i < plan.identifiers → tag p i ≡ maker (creates plan i) l

-- The live process p with serial x is as its member tells.
pub record Fits (plan : Plan) (x : ℕ) (p : Process) (m : Member) : Type 0 where
  pub live : m.live ≡ true
  pub template : p.template ≡ m.template
  pub tags : Tagged plan p (lineage x m)
  pub within : (i : ℕ) → i < plan.identifiers → has i p.label ≡ true → wearable plan m.template i ≡ true
  pub unmoved : m.moved ≡ false → (i : ℕ) → i < plan.identifiers → has i p.label ≡ has i (at plan m.template).lab

-- Of a member x: its lineage is a route from the root, with serials below next.
abbrev pub HasRoute : Plan → ℕ → ℕ → Member → Type 0
HasRoute plan next x m = m.born ≡ true → Descent plan 0 (lineage x m) × Older next (lineage x m)

-- Of two members: they are separated;
abbrev pub AreApart : Plan → ℕ → Member → ℕ → Member → Type 0
AreApart plan x mx y my = mx.born ≡ true → my.born ≡ true → x ≢ y → Separated plan (lineage x mx) (lineage y my)

-- and if the first is live, it is not above the second.
abbrev pub NotAbove : ℕ → Member → ℕ → Member → Type 0
NotAbove x mx y my = mx.live ≡ true → my.born ≡ true → On x my.above → ⊥

-- Of a member and what is found at its serial: if it lives, it was made and is found;
abbrev pub IsFound : ℕ → Option Process → Member → Type 0
IsFound x v m = m.live ≡ true → (m.born ≡ true) × ((p : Process) × (v ≡ some p))

-- and what is found fits.
abbrev pub AllFits : Plan → ℕ → Option Process → Member → Type 0
AllFits plan x v m = (p : Process) → v ≡ some p → Fits plan x p m

-- All of this, of a population and its history.
pub record Family (plan : Plan) (next : ℕ) (P : Population) (H : History) : Type 0 where
  pub pos : 0 < next
  pub route : (x : ℕ) → HasRoute plan next x (H x)
  pub apart : (x y : ℕ) → AreApart plan x (H x) y (H y)
  pub childless : (x y : ℕ) → NotAbove x (H x) y (H y)
  pub alive : (x : ℕ) → IsFound x (P x) (H x)
  pub fits : (x : ℕ) → AllFits plan x (P x) (H x)

-- The upper of two members stands above the lower.
pub over_above : (plan : Plan) (x y : ℕ) (mx my : Member) → Over plan (lineage x mx) (lineage y my) → On x my.above
over_above plan x y mx my a = over_on plan (node x mx.template) (node y my.template) mx.above my.above a

-- ---- the two events

-- A child has its parent's tags and its own serial as tag of what its template creates: its makers.
pub child_fits : (plan : Plan) (c Y : ℕ) (above : List Node) (p : Process) (knows : ℕ → Bool)
    → Tagged plan p above → Fits plan c (child plan p c Y) (newborn Y above knows)
unfolding child tag wearable
child_fits plan c Y above p knows tags = record {
  live = refl;
  template = refl;
  tags = λ i h. get_or-tabulate plan.identifiers (λ j. cond (creates plan j Y) c (tag p j)) i 0 h ∙ ap (cond (creates plan i Y) c) (tags i h);
  within = λ i h e. or_left (has i (at plan Y).lab) _ e;
  unmoved = λ e i h. refl;
}

module _ (plan : Plan) (next : ℕ) (P : Population) (H : History) (g : Family plan next P H) where
  -- No process has a serial that was not given yet.
  pub unborn : (c : ℕ) → next ≤ c → (H c).born ≡ true → ⊥
  unborn c fresh b = let q : c < next = (g.route c b).1.0 in omega arith

  -- A member changes its marks or learns, and its process changes with it; its lineage stays.
  pub family_touch : (s : ℕ) (live moved : Bool) (knows : ℕ → Bool) (v : Option Process)
      → (live ≡ true → ((H s).live ≡ true) × ((p : Process) × (v ≡ some p))) → AllFits plan s v (touched (H s) live moved knows)
      → Family plan next (put P s v) (put H s (touched (H s) live moved knows))
  family_touch s live moved knows v lives fit =
      let m : Member = touched (H s) live moved knows in
      record {
        pos = g.pos;
        route = put_all (HasRoute plan next) H s m (g.route s) (λ x h. g.route x);
        apart = put_all₂ (AreApart plan) H s m
            (λ b c h. absurd (h refl)) (λ y h. g.apart s y) (λ x h. g.apart x s) (λ x y h k. g.apart x y);
        childless = put_all₂ NotAbove H s m
            (λ a. g.childless s s (lives a).0) (λ y h a. g.childless s y (lives a).0) (λ x h. g.childless x s) (λ x y h k. g.childless x y);
        alive = put_two IsFound P H s v m
            (λ a. ((g.alive s (lives a).0).0, (lives a).1)) (λ x h. g.alive x);
        fits = put_two (AllFits plan) P H s v m fit (λ x h. g.fits x);
      }

  -- A child c at Y is born of the process r, which has ended; p is what r was.
  pub family_birth : (r c Y : ℕ) (p : Process) (knows : ℕ → Bool)
      → (H r).born ≡ true → (H r).live ≡ false → Successor plan (H r).template Y → next ≤ c
      → Tagged plan p (lineage r (H r))
      → ((y : ℕ) → (H y).born ≡ true → Separated plan (node c Y ∷ lineage r (H r)) (lineage y (H y)))
      → Family plan (suc c) (put P c (some (child plan p c Y))) (put H c (newborn Y (lineage r (H r)) knows))
  family_birth r c Y p knows born ended edge fresh tags apart =
      let m : Member = newborn Y (lineage r (H r)) knows in
      let parent = g.route r born in
      record {
        pos = omega arith;
        route = put_all (HasRoute plan (suc c)) H c m
            (λ b. ((edge, parent.0), (omega arith, older_later next (suc c) (lineage r (H r)) (omega arith) parent.1)))
            (λ x h b. let l = g.route x b in (l.0, older_later next (suc c) (lineage x (H x)) (omega arith) l.1));
        apart = put_all₂ (AreApart plan) H c m
            (λ b d h. absurd (h refl)) (λ y h b d k. apart y d) (λ x h b d k. swap (apart x b)) (λ x y h k. g.apart x y);
        childless = put_all₂ NotAbove H c m
            (λ a b o. let q : c < next = on_older next c (lineage r (H r)) parent.1 o in omega arith)
            (λ y h a b o. let q : c < next = on_older next c (H y).above (g.route y b).1.1 o in omega arith)
            (λ x h a b o. old x a o)
            (λ x y h k. g.childless x y);
        alive = put_two IsFound P H c (some (child plan p c Y)) m
            (λ a. (refl, (child plan p c Y, refl))) (λ x h. g.alive x);
        fits = put_two (AllFits plan) P H c (some (child plan p c Y)) m
            (λ p' e. let q : child plan p c Y ≡ p' = cc in rw (← q) (child_fits plan c Y (lineage r (H r)) p knows tags))
            (λ x h. g.fits x);
      }
    where
      old : (x : ℕ) → (H x).live ≡ true → On x (lineage r (H r)) → ⊥
      old x a (inl e) = true≢false (sym a ∙ (ap (λ (k : ℕ). (H k).live) e ∙ ended))
      old x a (inr o) = g.childless x r a born o
