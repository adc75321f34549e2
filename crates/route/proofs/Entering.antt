-- The turns of the recursive search over a layout as the code meets them: a template that is not open, and one whose two
-- successors are entered. The number of templates not yet entered falls.
use Prim.Native.Nat.{ℕ, ◌<◌}
use mathlib.Core.Path.{◌≡◌, sym, ap, subst, ◌∙◌}
use mathlib.Core.Bool.{Bool, true, false, not}
use mathlib.Core.List.{List}
use native.Mathlib.Omega.{arith}
use lib.ListN.{get_or}
use borrow.Author.Tests.{not-true, not-false}
use Rattle.mask.specs.Mask.{plus}
use Rattle.mask.specs.Sets.{plus_below}
use Rattle.mask.proofs.Items.{plus-below}
use Rattle.plan.specs.declared.Form.{Form}
use Rattle.plan.specs.declared.Plan.{Plan}
use Rattle.plan.specs.Plan.{successors}
use Rattle.route.specs.Search.{in_mask, is_open, enter_all, enter}
use Rattle.route.specs.Lent.{laid_out}
use Rattle.route.proofs.Searches.{left, open_low, enter_shut, enter_open, fewer, no_more}
use Rattle.route.proofs.Lent.{laid_form}

module _ (first second : List ℕ) (x barred seen : ℕ) (fresh : Bool) (asked : fresh ≡ is_open (in_mask barred) seen x) where
  abbrev laid : Plan
  laid = laid_out first second

  pub enter_stops : not fresh ≡ true → seen ≡ enter (laid_out first second) (in_mask barred) 64 seen x
  enter_stops e = sym (enter_shut laid (in_mask barred) seen x (sym asked ∙ not-true fresh e))

  is_open_lem : not fresh ≡ false → is_open (in_mask barred) seen x ≡ true
  is_open_lem e = sym asked ∙ not-false fresh e

  module _ (e : not fresh ≡ false) where
    pub enter_low : x < 64
    enter_low = open_low (in_mask barred) seen x (is_open_lem e)

    module _ (here : ℕ) (h : here ≡ plus_below 64 seen x) where
      added : here ≡ plus seen x
      added = h ∙ plus-below 64 seen x enter_low

      pub enter_less : (t : ℕ) → left seen ≡ t → left here < t
      enter_less t q =
          subst (λ (n : ℕ). left here < n) q (subst (λ (m : ℕ). left m < left seen) (sym added) (fewer laid (in_mask barred) seen x (is_open_lem e)))

      module _ (after : ℕ) (went : after ≡ enter (laid_out first second) (in_mask barred) 64 here (get_or first x 0)) where
        pub enter_less_again : (t : ℕ) → left seen ≡ t → left after < t
        enter_less_again t q =
            let less = enter_less t q in
            let more = no_more laid (in_mask barred) here (get_or first x 0) in
            subst (λ (m : ℕ). left m < t) (sym went) (omega arith)

        pub enter-both : (r : ℕ) → r ≡ enter (laid_out first second) (in_mask barred) 64 after (get_or second x 0)
            → r ≡ enter (laid_out first second) (in_mask barred) 64 seen x
        unfolding enter_all successors
        enter-both r q =
            q ∙ ap (λ (m : ℕ). enter laid (in_mask barred) 64 m (get_or second x 0)) (went ∙ ap (λ (m : ℕ). enter laid (in_mask barred) 64 m (get_or first x 0)) added)
            ∙ sym (enter_open laid (in_mask barred) seen x (is_open_lem e)
            ∙ ap (λ (form : Form). enter_all (enter laid (in_mask barred) 64) (plus seen x) (successors form)) (laid_form first second x enter_low))
