-- The edges from one template to its successors; and the loop over the templates.
use Prim.Native.Nat.{ℕ, ◌+◌, min, ◌≤◌, ◌<◌}
use mathlib.Core.Path.{◌≡◌, sym, ap, subst, ◌∙◌}
use mathlib.Core.Logic.{◌⊎◌, inl, inr}
use mathlib.Core.List.{[], ◌∷◌}
use native.Mathlib.Omega.{arith}
use lib.ListN.{length, get_or}
use Rattle.std.specs.Prelude.{Result, Ok, Err, IsErrAnd}
use Rattle.lists.proofs.Tests.{lt_or_le}
use Rattle.plan.specs.declared.Plan.{Plan}
use Rattle.plan.specs.declared.Template.{Template}
use Rattle.plan.specs.Plan.{blank, at, successors}
use Rattle.plan.proofs.Places.{template_past}
use Rattle.rules.specs.declared.Breach.{Breach}
use Rattle.rules.specs.declared.Verdict.{Verdict}
use Rattle.rules.specs.declared.Verdict.TheVariants.{Accepted}
use Rattle.rules.specs.Judge.{or_else, first_below, first_in, check_edge, check_edges}
use Rattle.rules.specs.Broken.{answered}
use Rattle.rules.proofs.Walk.{or_last, or_stops, or_goes, below_none, below_more, below_breaks, below_past}

-- Of one, and of two: the first's answer is r, that of both s.
module _ (f : ℕ → Verdict) (Y : ℕ) (r : Result (Unit {0}) Breach) (e : answered r ≡ f Y) where
  pub of_one : answered r ≡ first_in (Y ∷ []) f
  unfolding first_in
  of_one = e ∙ sym (or_last (f Y))

  module _ (Z : ℕ) where
    two : or_else (f Y) (f Z) ≡ first_in (Y ∷ Z ∷ []) f
    unfolding first_in
    two = ap (or_else (f Y)) (sym (or_last (f Z)))

    pub of_first : (d : Breach) → r ≡ Err d → (s : Result (Unit {0}) Breach) → IsErrAnd s (λ e. e ≡ d) → answered s ≡ first_in (Y ∷ Z ∷ []) f
    of_first d q s k = or_stops r (f Y) (f Z) d e q s k ∙ two

    pub of_second : (u : Unit {0}) → r ≡ Ok u → (s : Result (Unit {0}) Breach) → answered s ≡ f Z → answered s ≡ first_in (Y ∷ Z ∷ []) f
    of_second u q s k = k ∙ or_goes r (f Y) (f Z) u e q ∙ two

-- ---- all templates

module _ (plan : Plan) where
  abbrev each : ℕ → Verdict
  each X = first_in (successors (at plan X).form) (check_edge plan X)

  -- What the loop keeps: the edges of the first x templates are accepted. That the row has its length is known once a template
  -- was read.
  pub record Passed (x : ℕ) : Type 0 where
    pub so_far : first_below x each ≡ Accepted
    pub row : 0 < x → length plan.templates ≡ 64

  pub edges_start : Passed 0
  edges_start = record { so_far = below_none each; row = λ h. omega arith }

  module _ (x : ℕ) (p : Passed x) where
    module _ (r : Result (Unit {0}) Breach) (e : answered r ≡ first_in (successors (get_or plan.templates x blank).form) (check_edge plan x)) where
      here : answered r ≡ each x
      unfolding at
      here = e

      pub edges_more : length plan.templates ≡ 64 → (u : Unit {0}) → r ≡ Ok u → Passed (x + 1)
      edges_more full u q = record { so_far = below_more x each p.so_far (sym here ∙ ap answered q); row = λ h. full }

      pub edges_hit : x < plan.count → (d : Breach) → r ≡ Err d → (s : Result (Unit {0}) Breach) → IsErrAnd s (λ e. e ≡ d) → answered s ≡ check_edges plan
      unfolding check_edges
      edges_hit l d q s k = below_breaks plan.count each x l p.so_far r d here q s k

    -- Past the places no template has an edge.
    edgeless : length plan.templates ≡ 64 → (X : ℕ) → 64 ≤ X → each X ≡ Accepted
    unfolding successors first_in
    edgeless full X h = ap (λ (a : Template). first_in (successors a.form) (check_edge plan X)) (template_past plan full X h)

    pub edges_end : (n : ℕ) → n ≡ min plan.count 64 → x ≤ n → n ≤ x → Accepted ≡ check_edges plan
    unfolding check_edges
    edges_end n e l h = whole (lt_or_le 0 x)
      where
        whole : (0 < x) ⊎ (x ≤ 0) → Accepted ≡ first_below plan.count each
        whole (inl some) =
            let q : x ≡ min plan.count 64 = omega arith in
            sym (below_past plan.count 64 each (edgeless (p.row some)) (subst (λ (k : ℕ). first_below k each ≡ Accepted) q p.so_far))
        whole (inr none) = let q : x ≡ plan.count = omega arith in sym (subst (λ (k : ℕ). first_below k each ≡ Accepted) q p.so_far)
