-- The crossing of a fork's branches: routes from them to the source and to the sink without a barred template, of which
-- one passes a way unless none is needed. One pair of laws, from the test and to it, serves both tag relations.
use Prim.Native.Nat.{ℕ, ◌<◌}
use mathlib.Core.Path.{◌≡◌, refl, sym, ap, subst, subst₂, ◌∙◌}
use mathlib.Core.Logic.{◌⊎◌, inl, inr, ⊎_elim}
use mathlib.Core.Bool.{Bool, true, false≢true}
use mathlib.Core.List.{List, [], ◌∷◌}
use native.Mathlib.Nat.{le_refl}
use Rattle.lists.specs.Joins.{either}
use Rattle.lists.proofs.Tests.{both_left, both_right, both_of, either_left, either_right, either_cases}
use Rattle.mask.specs.Mask.{has}
use Rattle.plan.specs.declared.Form.{Form}
use Rattle.plan.specs.declared.Form.TheVariants.{End, Go, Either, Both}
use Rattle.plan.specs.declared.Plan.{Plan}
use Rattle.plan.specs.Plan.{at, successors, Among}
use Rattle.plan.specs.Range.{InRange}
use Rattle.route.specs.declared.Forks.{Forks}
use Rattle.route.specs.Route.{Holds, RouteLacking, Branches}
use Rattle.route.specs.Search.{in_mask, reach, is_way, ways, targets, arrives, detours, crosses, branches_cross, on_branches, fork_crosses, leads, any_in}
use Rattle.route.proofs.Routes.{range_low, Passes, by_way, at_way, ends_low}
use Rattle.route.proofs.Searches.{reach_exactly, reach_bar}
use Rattle.route.proofs.Sets.{collect_from, collect_to, meet_from, meet_to}

-- ---- the branches of a form

-- Where a test passes at the branches, in one assignment or the other, it passes at an assignment of them,
branches_from : (form : Form) (test : ℕ → ℕ → Bool) → on_branches form (λ Y Z. either (test Y Z) (test Z Y)) ≡ true
    → (one other : ℕ) × Branches form one other × (test one other ≡ true)
branches_from End test e = absurd (false≢true e)
branches_from (Go Y) test e = absurd (false≢true e)
branches_from (Either Y Z) test e = absurd (false≢true e)
branches_from (Both Y Z) test e = ⊎_elim (λ h. (Y, Z, inl (refl, refl), h)) (λ h. (Z, Y, inr (refl, refl), h)) (either_cases _ _ e)

-- and the other way round.
branches_to : (form : Form) (test : ℕ → ℕ → Bool) (one other : ℕ) → Branches form one other → test one other ≡ true
    → on_branches form (λ Y Z. either (test Y Z) (test Z Y)) ≡ true
branches_to End test one other b e = absurd b
branches_to (Go Y) test one other b e = absurd b
branches_to (Either Y Z) test one other b e = absurd b
branches_to (Both Y Z) test one other b e = ⊎_elim
    (λ h. either_left _ _ (subst₂ (λ (U W : ℕ). test U W ≡ true) h.0 h.1 e))
    (λ h. either_right (test Y Z) _ (subst₂ (λ (U W : ℕ). test U W ≡ true) h.0 h.1 e)) b

-- Branches are successors.
branches_low : (form : Form) → ((Y : ℕ) → Among Y (successors form) → Y < 64) → (one other : ℕ) → Branches form one other → (one < 64) × (other < 64)
unfolding successors
branches_low End low one other b = absurd b
branches_low (Go Y) low one other b = absurd b
branches_low (Either Y Z) low one other b = absurd b
branches_low (Both Y Z) low one other b = ⊎_elim
    (λ h. (low one (inl h.0), low other (inr (inl h.1))))
    (λ h. (low one (inr (inl h.0)), low other (inl h.1))) b

-- ---- a test over a list

pub any_in_from : (test : ℕ → Bool) (list : List ℕ) → any_in test list ≡ true → (Y : ℕ) × Among Y list × (test Y ≡ true)
unfolding any_in
any_in_from test [] e = absurd (false≢true e)
any_in_from test (Y ∷ rest) e =
    ⊎_elim (λ h. (Y, inl refl, h)) (λ h. let r = any_in_from test rest h in (r.0, inr r.1, r.2)) (either_cases _ _ e)

pub any_in_to : (test : ℕ → Bool) (list : List ℕ) (Y : ℕ) → Among Y list → test Y ≡ true → any_in test list ≡ true
unfolding any_in
any_in_to test [] Y a e = absurd a
any_in_to test (Z ∷ rest) Y a e =
    ⊎_elim (λ q. either_left _ _ (subst (λ (U : ℕ). test U ≡ true) q e)) (λ h. either_right (test Z) _ (any_in_to test rest Y h e)) a

-- ---- bars and ways as masks, and the tests that they stand for

module _ (plan : Plan) (range : InRange plan) (barred via : ℕ) (bar way : ℕ → Bool)
    (bars : (X : ℕ) → X < 64 → has X barred ≡ bar X) (wayed : (X : ℕ) → X < 64 → has X via ≡ way X) where
  from_search : (X Y : ℕ) → X < 64 → has Y (reach plan (in_mask barred) X) ≡ true → RouteLacking plan bar X Y
  from_search X Y l e = (reach_exactly plan range bar X Y l).0 (sym (ap (has Y) (reach_bar plan (in_mask barred) bar bars X)) ∙ e)

  to_search : (X Y : ℕ) → X < 64 → RouteLacking plan bar X Y → has Y (reach plan (in_mask barred) X) ≡ true
  to_search X Y l h = ap (has Y) (reach_bar plan (in_mask barred) bar bars X) ∙ (reach_exactly plan range bar X Y l).1 h

  -- A search that met a way to Z has a route to Z that passes one.
  detours_from : (X Z : ℕ) → X < 64 → detours (reach plan (in_mask barred) X) (record { place = Z; ways = ways 64 plan barred via Z }) ≡ true → Passes plan bar way X Z
  unfolding detours ways
  detours_from X Z l e =
      let w = meet_from (reach plan (in_mask barred) X) (ways 64 plan barred via Z) e in
      let c = (collect_from 64 (is_way plan barred via Z) w.0 w.3).1 in
      by_way plan bar way X w.0 Z (from_search X w.0 l w.2) (sym (wayed w.0 w.1) ∙ both_left _ _ c)
      (from_search w.0 Z w.1 (both_right (has w.0 via) _ c))

  detours_to : (X Z : ℕ) → X < 64 → Passes plan bar way X Z → detours (reach plan (in_mask barred) X) (record { place = Z; ways = ways 64 plan barred via Z }) ≡ true
  unfolding detours ways
  detours_to X Z l p =
      let w = at_way plan bar way p.0.route p.0.lacks p.1 in
      let m = ends_low plan (range_low plan range) w.2.route l in
      meet_to (reach plan (in_mask barred) X) (ways 64 plan barred via Z) w.0 m (to_search X w.0 l w.2)
      (collect_to 64 (is_way plan barred via Z) w.0 (le_refl 64) m
      (both_of _ _ (wayed w.0 m ∙ w.1) (to_search w.0 Z m w.3)))

  module _ (S K : ℕ) where
    -- Routes from one branch to S and from the other to K; where not `direct`, one of them passes a way.
    pub record Crossing (one other : ℕ) (direct passing : Bool) : Type 0 where
      pub to_S : RouteLacking plan bar one S
      pub to_K : RouteLacking plan bar other K
      pub led : ((passing ≡ true) × (Holds way to_S.list ⊎ Holds way to_K.list)) ⊎ (direct ≡ true)

    crosses_from : (one other : ℕ) → one < 64 → other < 64 → (direct passing : Bool)
        → crosses (targets 64 plan barred via S K) direct passing (reach plan (in_mask barred) one) (reach plan (in_mask barred) other) ≡ true
        → Crossing one other direct passing
    unfolding crosses targets arrives
    crosses_from one other l k direct passing e = ⊎_elim
        (λ h. let p = both_right direct _ h in
        let g = from_search one S l (both_left _ _ p) in
        let r = from_search other K k (both_right (has S (reach plan (in_mask barred) one)) _ p) in
        record { to_S = g; to_K = r; led = inr (both_left _ _ h) })
        (λ h. let yes = both_left passing _ h in ⊎_elim
        (λ p. let g = detours_from one S l (both_left _ _ p) in
        let r = from_search other K k (both_right (detours (reach plan (in_mask barred) one) _) _ p) in
        record { to_S = g.0; to_K = r; led = inl (yes, inl g.1) })
        (λ p. let g = from_search one S l (both_left _ _ p) in
        let r = detours_from other K k (both_right (has S (reach plan (in_mask barred) one)) _ p) in
        record { to_S = g; to_K = r.0; led = inl (yes, inr r.1) })
        (either_cases _ _ (both_right passing _ h)))
        (either_cases _ _ e)

    crosses_to : (one other : ℕ) → one < 64 → other < 64 → (direct passing : Bool) → Crossing one other direct passing
        → crosses (targets 64 plan barred via S K) direct passing (reach plan (in_mask barred) one) (reach plan (in_mask barred) other) ≡ true
    unfolding crosses targets arrives
    crosses_to one other l k direct passing x =
        let g = to_search one S l x.to_S in
        let r = to_search other K k x.to_K in
        ⊎_elim
        (λ p. either_right _ _ (both_of _ _ p.0 (⊎_elim
        (λ h. either_left _ _ (both_of _ _ (detours_to one S l (x.to_S, h)) r))
        (λ h. either_right _ _ (both_of _ _ g (detours_to other K k (x.to_K, h))))
        p.1)))
        (λ d. either_left _ _ (both_of _ _ d (both_of _ _ g r))) x.led

    -- L is reached, and branches of it cross.
    pub record CrossingAt (forks : Forks) (L : ℕ) : Type 0 where
      pub one : ℕ
      pub other : ℕ
      pub branches : Branches (at plan L).form one other
      pub stands : has L forks.reached ≡ true
      pub crossing : Crossing one other (has L forks.direct) (has L forks.passing)

    pub fork_from : (forks : Forks) (L : ℕ) → fork_crosses plan barred (targets 64 plan barred via S K) forks L ≡ true
        → CrossingAt forks L
    unfolding fork_crosses branches_cross
    fork_from forks L e =
        let b = branches_from (at plan L).form (λ Y Z. crosses (targets 64 plan barred via S K) (has L forks.direct) (has L forks.passing) (reach plan (in_mask barred) Y) (reach plan (in_mask barred) Z)) (both_right (has L forks.reached) _ e) in
        let low = branches_low (at plan L).form (range_low plan range L) b.0 b.1 b.2 in
        record {
          one = b.0;
          other = b.1;
          branches = b.2;
          stands = both_left _ _ e;
          crossing = crosses_from b.0 b.1 low.0 low.1 (has L forks.direct) (has L forks.passing) b.3;
        }

    pub fork_to : (forks : Forks) (L : ℕ) → CrossingAt forks L
        → fork_crosses plan barred (targets 64 plan barred via S K) forks L ≡ true
    unfolding fork_crosses branches_cross
    fork_to forks L x =
        let low = branches_low (at plan L).form (range_low plan range L) x.one x.other x.branches in
        both_of _ _ x.stands
        (branches_to (at plan L).form (λ Y Z. crosses (targets 64 plan barred via S K) (has L forks.direct) (has L forks.passing) (reach plan (in_mask barred) Y) (reach plan (in_mask barred) Z)) x.one x.other x.branches
        (crosses_to x.one x.other low.0 low.1 (has L forks.direct) (has L forks.passing) x.crossing))

    -- Routes from a successor to K.
    pub record Leading (direct : Bool) (Y : ℕ) : Type 0 where
      pub to_K : RouteLacking plan bar Y K
      pub led : Holds way to_K.list ⊎ (direct ≡ true)

    pub leads_from : (direct : Bool) (Y : ℕ) → Y < 64 → leads plan barred (targets 64 plan barred via S K).sink direct Y ≡ true → Leading direct Y
    unfolding leads targets arrives
    leads_from direct Y l e = ⊎_elim
        (λ h. let r = from_search Y K l (both_right direct _ h) in record { to_K = r; led = inr (both_left _ _ h) })
        (λ h. let r = detours_from Y K l h in record { to_K = r.0; led = inl r.1 })
        (either_cases _ _ e)

    pub leads_to : (direct : Bool) (Y : ℕ) → Y < 64 → Leading direct Y → leads plan barred (targets 64 plan barred via S K).sink direct Y ≡ true
    unfolding leads targets arrives
    leads_to direct Y l x = ⊎_elim
        (λ h. either_right _ _ (detours_to Y K l (x.to_K, h)))
        (λ d. either_left _ _ (both_of _ _ d (to_search Y K l x.to_K))) x.led
