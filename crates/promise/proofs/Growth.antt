-- A step in the family: its process has ended and had no children, and now its children come one by one. The family
-- and the guarded knowledge are kept by each birth, and two children of one step part at their parent.
use Prim.Native.Nat.{ℕ, suc, ◌+◌, ◌≤◌, ◌<◌}
use native.Mathlib.Omega.{arith}
use mathlib.Core.Path.{◌≡◌, refl}
use mathlib.Core.Logic.{◌≢◌, ◌⊎◌, inl, inr}
use mathlib.Core.List.{◌∷◌}
use mathlib.Core.Bool.{Bool, true, false, cond}
use lib.Dec.{eqb}
use lib.ListN.{length}
use Rattle.lists.specs.Numbers.{put}
use Rattle.lists.proofs.Put.{put_other, put_all, same?}
use Rattle.plan.specs.declared.Form.{Form}
use Rattle.plan.specs.declared.Form.TheVariants.{End, Go, Either, Both}
use Rattle.plan.specs.declared.Plan.{Plan}
use Rattle.plan.specs.Plan.{at, successors, Successor}
use Rattle.route.specs.Route.{Branches}
use Rattle.machine.specs.Machine.{Process, children}
use Rattle.machine.proofs.Sending.{worn}
use Rattle.machine.proofs.Live.{Population, arrival, arrivals}
use Rattle.promise.specs.History.{node, Member, History, lineage, newborn, inherited, births}
use Rattle.promise.proofs.Accepted.{Passes, AllPass}
use Rattle.promise.proofs.Lineage.{On, Older}
use Rattle.promise.proofs.Separation.{Separated, parted, under, Parting, Over, swap, parent_over, child_separated, siblings}
use Rattle.promise.proofs.Family.{Tagged, Family, over_above, family_birth, unborn}
use Rattle.promise.proofs.Guard.{Guard}
use Rattle.promise.proofs.Knowledge.{Carried, Carries, Guarded, guarded_birth}

-- The process r has ended; p is what it was, with the tags that its children take from it.
pub record Parent (plan : Plan) (H : History) (r : ℕ) (p : Process) : Type 0 where
  pub born : (H r).born ≡ true
  pub ended : (H r).live ≡ false
  pub template : p.template ≡ (H r).template
  pub tags : Tagged plan p (lineage r (H r))

-- The history after the birth of one child of r, at Y.
abbrev birth : ℕ → ℕ → ℕ → ℕ → History → History
birth declass r c Y H = put H c (newborn Y (lineage r (H r)) (inherited declass c Y (H r).knows))

-- A child is separated from everybody, if it is from those below its parent.
family_child : (plan : Plan) (next : ℕ) (P : Population) (H : History) → Family plan next P H
    → (declass r c Y : ℕ) (p : Process) → Parent plan H r p → Successor plan (H r).template Y → next ≤ c
    → ((y : ℕ) → (H y).born ≡ true → Over plan (lineage r (H r)) (lineage y (H y))
    → Separated plan (node c Y ∷ lineage r (H r)) (lineage y (H y)))
    → Family plan (suc c) (arrival plan p c Y P) (birth declass r c Y H)
family_child plan next P H g declass r c Y p parent edge fresh below =
    family_birth plan next P H g r c Y p (inherited declass c Y (H r).knows) parent.born parent.ended edge fresh parent.tags
    (λ y b. pick y b (same? r y))
  where
    older : Older next (lineage r (H r))
    older = (g.route r parent.born).1

    pick : (y : ℕ) → (H y).born ≡ true → (r ≡ y) ⊎ (r ≢ y) → Separated plan (node c Y ∷ lineage r (H r)) (lineage y (H y))
    pick y b (inl e) = rw (← e) (under (parent_over plan (node c Y) (node r (H r).template) (H r).above next g.pos fresh edge older))
    pick y b (inr h) =
        child_separated plan (node c Y) (node r (H r).template) (H r).above next g.pos fresh edge
        (lineage y (H y)) (g.route y b).1 (below y b) (g.apart r y parent.born b h)

-- r is above nobody.
abbrev pub Childless : History → ℕ → Type 0
Childless H r = (y : ℕ) → (H y).born ≡ true → On r (H y).above → ⊥

-- ---- the family

module _ (plan : Plan) (next : ℕ) (P : Population) (H : History) (g : Family plan next P H)
    (r : ℕ) (p : Process) (parent : Parent plan H r p) (childless : Childless H r) (declass : ℕ) where
  nobody-below : {L : Type 0} (y : ℕ) → (H y).born ≡ true → Over plan (lineage r (H r)) (lineage y (H y)) → L
  nobody-below y b a = absurd (childless y b (over_above plan r y (H r) (H y) a))

  -- A birth leaves the parent as it was.
  still : (Y : ℕ) → birth declass r next Y H r ≡ H r
  still Y =
      put_other H next (newborn Y (lineage r (H r)) (inherited declass next Y (H r).knows)) r
      (let q : r < next = (g.route r parent.born).1.0 in omega arith)

  parent_after : (Y : ℕ) → Parent plan (birth declass r next Y H) r p
  parent_after Y = record {
    born = rw (still Y) parent.born;
    ended = rw (still Y) parent.ended;
    template = rw (still Y) parent.template;
    tags = rw (still Y) parent.tags;
  }

  one : (Y : ℕ) → Successor plan (H r).template Y → Family plan (suc next) (arrival plan p next Y P) (birth declass r next Y H)
  one Y edge = family_child plan next P H g declass r next Y p parent edge (omega arith) (λ y b a. nobody-below y b a)

  two : (Y Z : ℕ) → Successor plan (H r).template Y → Successor plan (H r).template Z → Branches (at plan (H r).template).form Y Z
      → Family plan (suc (suc next)) (arrival plan p (suc next) Z (arrival plan p next Y P)) (birth declass r (suc next) Z (birth declass r next Y H))
  two Y Z edge-Y edge-Z branches =
      family_child plan (suc next) (arrival plan p next Y P) (birth declass r next Y H) (one Y edge-Y) declass r (suc next) Z p
      (parent_after Y) (rw (still Y) edge-Z) (omega arith)
      (rw (still Y) (put_all Apart H next (newborn Y (lineage r (H r)) (inherited declass next Y (H r).knows))
      (λ b a. swap (parted sisters)) (λ y h b a. nobody-below y b a)))
    where
      Apart : ℕ → Member → Type 0
      Apart y my = my.born ≡ true → Over plan (lineage r (H r)) (lineage y my) → Separated plan (node (suc next) Z ∷ lineage r (H r)) (lineage y my)

      sisters : Parting plan (node next Y ∷ lineage r (H r)) (node (suc next) Z ∷ lineage r (H r))
      sisters =
          let route = g.route r parent.born in
          siblings plan (node next Y) (node (suc next) Z) (node r (H r).template) (H r).above next g.pos (omega arith) (omega arith)
          route.1 route.0 branches

  chosen : (branch Y Z : ℕ) → Successor plan (H r).template Y → Successor plan (H r).template Z
      → Successor plan (H r).template (cond (eqb branch 0) Y Z)
  chosen branch Y Z edge-Y edge-Z = pick (eqb branch 0)
    where
      pick : (c : Bool) → Successor plan (H r).template (cond c Y Z)
      pick true = edge-Y
      pick false = edge-Z

  -- All children of a step, by the form of the parent's template.
  pub births_family : (branch : ℕ) (form : Form) → (at plan (H r).template).form ≡ form
      → let templates = children form branch in
      Family plan (next + length templates) (arrivals plan p next templates P) (births declass r next templates H)
  unfolding births arrivals children successors
  births_family branch End e = let q : next + 0 ≡ next = omega arith in rw q g
  births_family branch (Go Y) e = let q : next + 1 ≡ suc next = omega arith in rw q (one Y (rw e (inl refl)))
  births_family branch (Either Y Z) e =
      let q : next + 1 ≡ suc next = omega arith in
      rw q (one (cond (eqb branch 0) Y Z) (chosen branch Y Z (rw e (inl refl)) (rw e (inr (inl refl)))))
  births_family branch (Both Y Z) e =
      let q : next + 2 ≡ suc (suc next) = omega arith in
      rw q (two Y Z (rw e (inl refl)) (rw e (inr (inl refl))) (rw e (inl (refl, refl))))

-- ---- knowledge

module _ (plan : Plan) (next : ℕ) (P : Population) (H : History) (g : Family plan next P H)
    (r : ℕ) (p : Process) (parent : Parent plan H r p) (childless : Childless H r)
    (guard : Guard plan) (f : Guarded plan guard P H) (carries : Carries plan guard H (H r).knows (worn p)) where
  guarded_one : (Y : ℕ) → Passes plan p.label p.template Y → Guarded plan guard (arrival plan p next Y P) (birth guard.declass r next Y H)
  guarded_one Y passes =
      guarded_birth plan guard P H f next g r next Y p parent.born parent.template (omega arith) passes parent.tags carries

  guarded_two : (Y Z : ℕ) → Successor plan (H r).template Y → Passes plan p.label p.template Y → Passes plan p.label p.template Z
      → Guarded plan guard (arrival plan p (suc next) Z (arrival plan p next Y P))
      (birth guard.declass r (suc next) Z (birth guard.declass r next Y H))
  guarded_two Y Z edge-Y passes-Y passes-Z =
      let same = still plan next P H g r p parent childless guard.declass Y in
      let after = parent_after plan next P H g r p parent childless guard.declass Y in
      guarded_birth plan guard (arrival plan p next Y P) (birth guard.declass r next Y H) (guarded_one Y passes-Y)
      (suc next) (one plan next P H g r p parent childless guard.declass Y edge-Y)
      r (suc next) Z p after.born after.template (omega arith) passes-Z after.tags
      (rw same (put_all (Carried plan guard (worn p) (H r).knows) H next (newborn Y (lineage r (H r)) (inherited guard.declass next Y (H r).knows))
      (λ k. absurd (unborn plan next P H g next (omega arith) (f.known r next k).1))
      (λ y h. carries y)))

  -- All children of a step that the labels allow.
  pub births_guarded : (branch : ℕ) (form : Form) → (at plan (H r).template).form ≡ form
      → let templates = children form branch in
      AllPass plan p.label p.template templates → Guarded plan guard (arrivals plan p next templates P) (births guard.declass r next templates H)
  unfolding births arrivals children successors
  births_guarded branch End e a = f
  births_guarded branch (Go Y) e a = guarded_one Y (a Y (inl refl))
  births_guarded branch (Either Y Z) e a = guarded_one (cond (eqb branch 0) Y Z) (a (cond (eqb branch 0) Y Z) (inl refl))
  births_guarded branch (Both Y Z) e a = guarded_two Y Z (rw e (inl refl)) (a Y (inl refl)) (a Z (inr (inl refl)))
