-- The layout as the code makes it: the turns of the loop over the templates, and the search that finds the forks.
use Prim.Native.Nat.{ℕ, ◌+◌, ◌≤◌, ◌<◌}
use mathlib.Core.Path.{◌≡◌, refl, ap, ap₂, subst, ◌∙◌}
use mathlib.Core.List.{List}
use native.Mathlib.Omega.{arith}
use lib.Bits.{bit_and}
use lib.ListN.{get_or, set, length, length-set}
use borrow.Author.Count.{below_none}
use Rattle.lists.specs.Numbers.{tabulate}
use Rattle.lists.proofs.Tabulate.{filled_more, filled_all}
use Rattle.plan.specs.declared.Plan.{Plan}
use Rattle.plan.specs.Plan.{blank, at}
use Rattle.route.specs.declared.Layout.{Layout}
use Rattle.route.specs.Search.{in_mask, collect, reach}
use Rattle.route.specs.Lent.{laid_out}
use Rattle.layout.specs.Layout.{first_of, second_of, firsts, seconds, creations, forked, forks, all_forks, layout_of}
use Rattle.layout.proofs.Layouts.{reach_laid}

-- ---- the loop over the templates

-- An array of 64 that is filled below x.
pub record Filled (f : ℕ → ℕ) (xs : List ℕ) (x : ℕ) : Type 0 where
  pub full : length xs ≡ 64
  pub so_far : (j : ℕ) → j < x → get_or xs j 0 ≡ f j

module _ (f : ℕ → ℕ) (xs : List ℕ) where
  filled_none : length xs ≡ 64 → Filled f xs 0
  filled_none e = record { full = e; so_far = below_none _ }

  module _ (x : ℕ) (s : Filled f xs x) where
    filled_next : (v : ℕ) → x < 64 → v ≡ f x → Filled f (set xs x v) (x + 1)
    filled_next v l e = let n = s.full in record { full = simp length-set s.full; so_far = filled_more f xs x v (omega arith) e s.so_far }

    filled_end : x ≡ 64 → xs ≡ tabulate 64 f
    filled_end q = filled_all f xs 64 s.full (subst (λ (k : ℕ). (j : ℕ) → j < k → get_or xs j 0 ≡ f j) q s.so_far)

-- What the loop keeps: all is laid out below x.
pub record Laying (plan : Plan) (first second creates : List ℕ) (x : ℕ) : Type 0 where
  pub at_first : Filled (λ X. first_of (at plan X).form) first x
  pub at_second : Filled (λ X. second_of (at plan X).form) second x
  pub at_creates : Filled (λ X. (at plan X).creates) creates x

module _ (plan : Plan) (first second creates : List ℕ) where
  pub lay_start : length first ≡ 64 → length second ≡ 64 → length creates ≡ 64 → Laying plan first second creates 0
  lay_start e h k = record {
    at_first = filled_none _ first e;
    at_second = filled_none _ second h;
    at_creates = filled_none _ creates k;
  }

  module _ (x : ℕ) (s : Laying plan first second creates x) where
    pub lay_more : (p : ℕ × ℕ) → p ≡ (first_of (get_or plan.templates x blank).form, second_of (get_or plan.templates x blank).form) → x < 64
        → Laying plan (set first x p.0) (set second x p.1) (set creates x (get_or plan.templates x blank).creates) (x + 1)
    unfolding at
    lay_more p e l = record {
      at_first = filled_next _ first x s.at_first p.0 l (ap (λ (p : ℕ × ℕ). p.0) e);
      at_second = filled_next _ second x s.at_second p.1 l (ap (λ (p : ℕ × ℕ). p.1) e);
      at_creates = filled_next _ creates x s.at_creates _ l refl;
    }

    pub lay_end : x ≤ 64 → 64 ≤ x → (found : ℕ) → found ≡ collect 64 (forked plan) → ◌≡◌ {A = Layout} (record { first = first; second = second; creates = creates; forks = found }) (all_forks plan)
    unfolding all_forks firsts seconds creations
    lay_end low g found e i =
        let q : x ≡ 64 = omega arith in
        record {
          first = filled_end _ first x s.at_first q i;
          second = filled_end _ second x s.at_second q i;
          creates = filled_end _ creates x s.at_creates q i;
          forks = e i;
        }

-- ---- the search for the forks

pub lay_forks : (plan : Plan) (l : Layout) (root : ℕ) → l ≡ all_forks plan → root ≡ reach (laid_out l.first l.second) (in_mask 0) 0
    → ◌≡◌ {A = Layout} (record { first = l.first; second = l.second; creates = l.creates; forks = bit_and root l.forks }) (layout_of plan)
unfolding all_forks layout_of forks
lay_forks plan l root e h =
    ap₂ (λ (u : Layout) (m : ℕ). record { first = u.first; second = u.second; creates = u.creates; forks = bit_and m u.forks }) e
    (h ∙ ap (λ (u : Layout). reach (laid_out u.first u.second) (in_mask 0) 0) e ∙ reach_laid plan (in_mask 0) 0)
