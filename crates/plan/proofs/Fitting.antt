-- What a template that fits gives, one successor and one mask at a time; and the successors of each template of a plan in range.
use Prim.Native.Nat.{ℕ, ◌^◌, ◌≤◌, ◌<◌}
use mathlib.Core.Path.{◌≡◌, refl}
use mathlib.Core.Logic.{◌⊎◌, inl, inr}
use mathlib.Core.Bool.{true}
use lib.Dec.{ltb}
use lib.Pow.{pow_pos}
use borrow.Author.Tests.{lt-ltb, ltb-true}
use Rattle.lists.specs.Numbers.{all}
use Rattle.lists.proofs.Tests.{and_both, lt_or_le}
use Rattle.plan.specs.declared.Template.{Template}
use Rattle.plan.specs.declared.Plan.{Plan}
use Rattle.plan.specs.Plan.{blank, at, successors, masks, template_fits, Among, Successor}
use Rattle.plan.specs.Range.{InRange}
use Rattle.plan.proofs.Among.{among_all}

module _ (N M : ℕ) (t : Template) (e : template_fits N M t ≡ true) where
  pub successors_pass : all (λ Y. ltb Y N) (successors t.form) ≡ true
  unfolding template_fits
  successors_pass = (and_both (all (λ Y. ltb Y N) (successors t.form)) _ e).0

  pub successor_fits : (Y : ℕ) → Among Y (successors t.form) → Y < N
  successor_fits Y s = ltb-true Y N (among_all (λ Y. ltb Y N) (successors t.form) successors_pass Y s)

  pub mask_fits : (mask : ℕ) → Among mask (masks t) → mask < 2 ^ M
  unfolding template_fits
  mask_fits mask a =
      ltb-true mask (2 ^ M)
      (among_all (λ mask. ltb mask (2 ^ M)) (masks t) (and_both (all (λ Y. ltb Y N) (successors t.form)) _ e).1 mask a)

-- The blank template fits every plan.
pub blank_fits : (N M : ℕ) → template_fits N M blank ≡ true
unfolding template_fits successors masks all
blank_fits N M = rw (lt-ltb 0 (2 ^ M) (pow_pos M)) refl

module _ (plan : Plan) (range : InRange plan) where
  -- Past N the template is blank.
  pub every_fits : (X : ℕ) → template_fits plan.count plan.identifiers (at plan X) ≡ true
  every_fits X = go (lt_or_le X plan.count)
    where
      go : (X < plan.count) ⊎ (plan.count ≤ X) → template_fits plan.count plan.identifiers (at plan X) ≡ true
      go (inl h) = range.each X h
      go (inr h) = rw (range.unused X h) (blank_fits plan.count plan.identifiers)

  pub successor_below : (X Y : ℕ) → Successor plan X Y → Y < plan.count
  successor_below X = successor_fits plan.count plan.identifiers (at plan X) (every_fits X)
