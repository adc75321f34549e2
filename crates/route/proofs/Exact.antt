-- Both tests of Search.antt are true exactly when their relations of Route.antt hold, for every plan in range: each is
-- the crossing of Crossings.antt, with C barred by way of A, and with A barred by way of C.
use Prim.Native.Nat.{ℕ, ◌<◌}
use mathlib.Core.Path.{◌≡◌, refl, sym, ap, subst, ◌∙◌}
use mathlib.Core.Logic.{◌↔◌, inl, inr, ⊎_elim}
use mathlib.Core.Bool.{Bool, true}
use lib.Dec.{lit<}
use borrow.Author.Tests.{eqb-true, eq-eqb}
use Rattle.lists.proofs.Tests.{both_left, both_right, both_of, either_left, either_right, either_cases, passes_fails}
use Rattle.lists.proofs.Every.{any_from, any_to}
use Rattle.mask.specs.Mask.{has}
use Rattle.mask.proofs.Items.{has_none}
use Rattle.plan.specs.declared.Plan.{Plan}
use Rattle.plan.specs.Plan.{at, successors, creates}
use Rattle.plan.specs.Range.{InRange}
use Rattle.route.specs.Route.{equals, Reached, ReachedLacking, ReachedHolding, SharedTag, SplitTag}
use Rattle.route.specs.Search.{in_mask, collect, only, reach, targets, fork_crosses, leads, shares_over, splits_over, shares_tag, splits_tag}
use Rattle.route.proofs.Routes.{range_low, lacks_all, by_way, at_way, ends_low}
use Rattle.route.proofs.Searches.{reach_exactly, reach_bar}
use Rattle.route.proofs.Sets.{collect_bar, only_bar}
use Rattle.route.proofs.Crossings.{fork_from, fork_to, leads_from, leads_to, any_in_from, any_in_to}

module _ (plan : Plan) (range : InRange plan) where
  root_low : 0 < 64
  root_low = lit< tt

  -- ---- from the root, and from A

  reached_from : (X : ℕ) → has X (reach plan (in_mask 0) 0) ≡ true → Reached plan X
  reached_from X e = let h = (reach_exactly plan range (in_mask 0) 0 X root_low).0 e in (h.list, h.route)

  reached_to : (X : ℕ) → Reached plan X → has X (reach plan (in_mask 0) 0) ≡ true
  reached_to X h = (reach_exactly plan range (in_mask 0) 0 X root_low).1 (record { list = h.0; route = h.1; lacks = lacks_all (in_mask 0) has_none h.0 })

  reached_low : (X : ℕ) → Reached plan X → X < 64
  reached_low X h = ends_low plan (range_low plan range) h.1 root_low

  lacking_from : (A X : ℕ) → has X (reach plan (in_mask (only A)) 0) ≡ true → ReachedLacking plan A X
  lacking_from A X e = (reach_exactly plan range (equals A) 0 X root_low).0 (sym (ap (has X) (reach_bar plan (in_mask (only A)) (equals A) (only_bar A) 0)) ∙ e)

  lacking_to : (A X : ℕ) → ReachedLacking plan A X → has X (reach plan (in_mask (only A)) 0) ≡ true
  lacking_to A X h = ap (has X) (reach_bar plan (in_mask (only A)) (equals A) (only_bar A) 0) ∙ (reach_exactly plan range (equals A) 0 X root_low).1 h

  holding_from : (A L : ℕ) → has A (reach plan (in_mask 0) 0) ≡ true → has L (reach plan (in_mask 0) A) ≡ true → ReachedHolding plan A L
  holding_from A L e h =
      let low = reached_low A (reached_from A e) in
      let w = by_way plan (in_mask 0) (equals A) 0 A L ((reach_exactly plan range (in_mask 0) 0 A root_low).0 e) (eq-eqb A A refl) ((reach_exactly plan range (in_mask 0) A L low).0 h) in
      (w.0.list, w.0.route, w.1)

  holding_to : (A L : ℕ) → ReachedHolding plan A L → (has A (reach plan (in_mask 0) 0) ≡ true) × (has L (reach plan (in_mask 0) A) ≡ true)
  holding_to A L h =
      let w = at_way plan (in_mask 0) (equals A) h.1 (lacks_all (in_mask 0) has_none h.0) h.2 in
      let low = ends_low plan (range_low plan range) w.2.route root_low in
      subst (λ (X : ℕ). (has X (reach plan (in_mask 0) 0) ≡ true) × (has L (reach plan (in_mask 0) X) ≡ true)) (eqb-true w.0 A w.1)
      ((reach_exactly plan range (in_mask 0) 0 w.0 root_low).1 w.2, (reach_exactly plan range (in_mask 0) w.0 L low).1 w.3)

  module _ (t S K A : ℕ) where
    -- ---- the same tag: C barred, by way of A

    abbrev C : ℕ
    C = collect 64 (creates plan t)

    shared_fork : ℕ → Bool
    shared_fork = fork_crosses plan C (targets 64 plan C (only A) S K) (record { reached = reach plan (in_mask 0) 0; direct = reach plan (in_mask (only A)) 0; passing = reach plan (in_mask 0) 0 })

    shares_from : shares_tag plan t S K A ≡ true → SharedTag plan t S K A
    unfolding shares_tag shares_over shared_fork
    shares_from e = ⊎_elim
        (λ h. let f = any_from 64 shared_fork h in
        let x = fork_from plan range C (only A) (creates plan t) (equals A) (collect_bar (creates plan t)) (only_bar A) S K _ f.0 f.2 in
        let y = x.crossing in
        inl (record {
          fork = record { L = f.0; one = x.one; other = x.other; reached = reached_from f.0 x.stands; branches = x.branches; to_S = y.to_S; to_K = y.to_K };
          ancestor = ⊎_elim (λ p. inl p.1) (λ d. inr (lacking_from A f.0 d)) y.led;
        }))
        (λ h. let f = any_in_from (leads plan C (targets 64 plan C (only A) S K).sink (has S (reach plan (in_mask (only A)) 0))) (successors (at plan S).form) (both_right (has S (reach plan (in_mask 0) 0)) _ h) in
        let x = leads_from plan range C (only A) (creates plan t) (equals A) (collect_bar (creates plan t)) (only_bar A) S K _ f.0 (range_low plan range S f.0 f.1) f.2 in
        inr (record {
          reached = reached_from S (both_left _ _ h);
          child = f.0;
          successor = f.1;
          to_K = x.to_K;
          ancestor = ⊎_elim inl (λ d. inr (lacking_from A S d)) x.led;
        }))
        (either_cases _ _ e)

    shares_to : SharedTag plan t S K A → shares_tag plan t S K A ≡ true
    unfolding shares_tag shares_over shared_fork
    shares_to s = ⊎_elim
        (λ x. let f = x.fork in
        either_left _ _ (any_to 64 shared_fork f.L (reached_low f.L f.reached)
        (fork_to plan range C (only A) (creates plan t) (equals A) (collect_bar (creates plan t)) (only_bar A) S K _ f.L
        (record {
          one = f.one;
          other = f.other;
          branches = f.branches;
          stands = reached_to f.L f.reached;
          crossing = record {
            to_S = f.to_S;
            to_K = f.to_K;
            led = ⊎_elim (λ p. inl (reached_to f.L f.reached, p)) (λ d. inr (lacking_to A f.L d)) x.ancestor;
          };
        }))))
        (λ x. either_right _ _ (both_of _ _ (reached_to S x.reached)
        (any_in_to (leads plan C (targets 64 plan C (only A) S K).sink (has S (reach plan (in_mask (only A)) 0))) (successors (at plan S).form) x.child x.successor
        (leads_to plan range C (only A) (creates plan t) (equals A) (collect_bar (creates plan t)) (only_bar A) S K _ x.child (range_low plan range S x.child x.successor)
        (record { to_K = x.to_K; led = ⊎_elim inl (λ d. inr (lacking_to A S d)) x.ancestor })))))
        s

    -- ---- different tags: A barred, by way of C

    split_fork : ℕ → Bool
    split_fork = fork_crosses plan (only A) (targets 64 plan (only A) C S K) (record { reached = reach plan (in_mask 0) 0; direct = 0; passing = reach plan (in_mask 0) A })

    splits_from : splits_tag plan t S K A ≡ true → SplitTag plan t S K A
    unfolding splits_tag splits_over split_fork
    splits_from e =
        let f = any_from 64 split_fork (both_right (has A (reach plan (in_mask 0) 0)) _ e) in
        let x = fork_from plan range (only A) C (equals A) (creates plan t) (only_bar A) (collect_bar (creates plan t)) S K _ f.0 f.2 in
        let y = x.crossing in
        let led = ⊎_elim (λ p. p) (λ d. absurd (passes_fails (has f.0 0) d (has_none f.0))) y.led in
        record {
          fork = record { L = f.0; one = x.one; other = x.other; reached = reached_from f.0 x.stands; branches = x.branches; to_S = y.to_S; to_K = y.to_K };
          under = holding_from A f.0 (both_left _ _ e) led.0;
          created = led.1;
        }

    splits_to : SplitTag plan t S K A → splits_tag plan t S K A ≡ true
    unfolding splits_tag splits_over split_fork
    splits_to x =
        let f = x.fork in
        let h = holding_to A f.L x.under in
        both_of _ _ h.0 (any_to 64 split_fork f.L (reached_low f.L f.reached)
        (fork_to plan range (only A) C (equals A) (creates plan t) (only_bar A) (collect_bar (creates plan t)) S K _ f.L
        (record {
          one = f.one;
          other = f.other;
          branches = f.branches;
          stands = reached_to f.L f.reached;
          crossing = record { to_S = f.to_S; to_K = f.to_K; led = inl (h.1, x.created) };
        })))

pub shares_exactly : (plan : Plan) → InRange plan → (t S K A : ℕ) → (shares_tag plan t S K A ≡ true) ↔ SharedTag plan t S K A
shares_exactly plan range t S K A = (shares_from plan range t S K A, shares_to plan range t S K A)

pub splits_exactly : (plan : Plan) → InRange plan → (t S K A : ℕ) → (splits_tag plan t S K A ≡ true) ↔ SplitTag plan t S K A
splits_exactly plan range t S K A = (splits_from plan range t S K A, splits_to plan range t S K A)
