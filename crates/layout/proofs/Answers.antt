-- Over the layout of a plan both answers are the tests of that plan, and so true exactly when their relations hold
-- (crate route, Exact.antt).
use Prim.Native.Nat.{ℕ}
use mathlib.Core.Path.{◌≡◌, ap, ap₂, ◌∙◌}
use mathlib.Core.Bool.{Bool, ◌&&◌, ◌||◌}
use lib.Bits.{bit_and}
use Rattle.lists.specs.Numbers.{any}
use Rattle.lists.specs.Joins.{both, either}
use Rattle.lists.proofs.Tabulate.{get_or-tabulate}
use Rattle.mask.specs.Mask.{has}
use Rattle.plan.specs.declared.Plan.{Plan}
use Rattle.plan.specs.Plan.{at, successors, creates}
use Rattle.route.specs.declared.Layout.{Layout}
use Rattle.route.specs.Search.{in_mask, collect, only, reach, targets, fork_crosses, leads, any_in, shares_over, splits_over, shares_tag, splits_tag}
use Rattle.route.specs.Lent.{laid_out}
use Rattle.layout.specs.Layout.{firsts, seconds, creations, made_by, forked, forks, layout_of}
use Rattle.route.proofs.Sets.{collect_ext}
use Rattle.layout.proofs.Layouts.{reach_laid, targets_laid, forks_laid, down_laid}

module _ (plan : Plan) where
  creators_laid : (t : ℕ) → collect 64 (made_by (creations plan) t) ≡ collect 64 (creates plan t)
  unfolding creations made_by creates
  creators_laid t = collect_ext 64 _ _ (λ X l. ap (has t) (get_or-tabulate 64 (λ X. (at plan X).creates) X 0 l))

  abbrev laid : Plan
  laid = laid_out (firsts plan) (seconds plan)

  shares_over_lem : (C S K A : ℕ) → shares_over laid (forks plan) C S K A ≡ shares_over plan (reach plan (in_mask 0) 0) C S K A
  unfolding shares_over forks both either
  shares_over_lem C S K A =
      (λ i.
      let root = reach_laid plan (in_mask 0) 0 i in
      let lacking = reach_laid plan (in_mask (only A)) 0 i in
      let to = targets_laid plan C (only A) S K i in
      any 64 (fork_crosses laid C to (record { reached = bit_and (reach plan (in_mask 0) 0) (collect 64 (forked plan)); direct = lacking; passing = root }))
      || (has S root && any_in (leads laid C to.sink (has S lacking)) (successors (at laid S).form)))
      ∙ ap₂ ◌||◌ (forks_laid plan C (targets 64 plan C (only A) S K) (reach plan (in_mask 0) 0) (reach plan (in_mask (only A)) 0) (reach plan (in_mask 0) 0))
      (down_laid plan C (targets 64 plan C (only A) S K).sink (has S (reach plan (in_mask (only A)) 0)) S)

  splits_over_lem : (C S K A : ℕ) → splits_over laid (forks plan) C S K A ≡ splits_over plan (reach plan (in_mask 0) 0) C S K A
  unfolding splits_over forks both
  splits_over_lem C S K A =
      (λ i.
      let to = targets_laid plan (only A) C S K i in
      has A (reach_laid plan (in_mask 0) 0 i)
      && any 64 (fork_crosses laid (only A) to (record { reached = bit_and (reach plan (in_mask 0) 0) (collect 64 (forked plan)); direct = 0; passing = reach_laid plan (in_mask 0) A i })))
      ∙ ap (λ (b : Bool). has A (reach plan (in_mask 0) 0) && b)
      (forks_laid plan (only A) (targets 64 plan (only A) C S K) (reach plan (in_mask 0) 0) 0 (reach plan (in_mask 0) A))

  -- What is asked over a layout of the plan, with the creators by its masks, is asked of the plan.
  module _ (l : Layout) (e : l ≡ layout_of plan) (t S K A : ℕ) where
    pub shares_laid : shares_over (laid_out l.first l.second) l.forks (collect 64 (made_by l.creates t)) S K A ≡ shares_tag plan t S K A
    unfolding shares_tag layout_of
    shares_laid =
        ap (λ (u : Layout). shares_over (laid_out u.first u.second) u.forks (collect 64 (made_by u.creates t)) S K A) e
        ∙ ap (λ (C : ℕ). shares_over laid (forks plan) C S K A) (creators_laid t) ∙ shares_over_lem (collect 64 (creates plan t)) S K A

    pub splits_laid : splits_over (laid_out l.first l.second) l.forks (collect 64 (made_by l.creates t)) S K A ≡ splits_tag plan t S K A
    unfolding splits_tag layout_of
    splits_laid =
        ap (λ (u : Layout). splits_over (laid_out u.first u.second) u.forks (collect 64 (made_by u.creates t)) S K A) e
        ∙ ap (λ (C : ℕ). splits_over laid (forks plan) C S K A) (creators_laid t) ∙ splits_over_lem (collect 64 (creates plan t)) S K A
