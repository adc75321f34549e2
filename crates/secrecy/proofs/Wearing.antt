-- The identifiers of a label that no template outside Declass may remove: the turns of the loop over the templates.
use Prim.Native.Nat.{ℕ, ◌+◌, ◌≤◌, ◌<◌, min}
use mathlib.Core.Path.{◌≡◌, refl, sym, ap, ◌∙◌}
use mathlib.Core.Logic.{◌⊎◌, inl, inr}
use mathlib.Core.Bool.{Bool, true, false, not, cond, ◌&&◌, ◌||◌, and_assoc, or-true}
use native.Mathlib.Omega.{arith}
use lib.ListN.{length, get_or}
use Rattle.lists.proofs.Tests.{lt_or_le}
use Rattle.lists.specs.Numbers.{every}
use Rattle.lists.proofs.Every.{every_none, every_acc, every_capped}
use Rattle.mask.specs.Mask.{has, without}
use Rattle.mask.proofs.Items.{has_none, has-without}
use Rattle.plan.specs.declared.Template.{Template}
use Rattle.plan.specs.declared.Plan.{Plan}
use Rattle.plan.specs.Plan.{blank, at}
use Rattle.plan.proofs.Places.{template_past}
use Rattle.secrecy.specs.Lent.{keeps}

-- ---- one template

kept_all : (b : Bool) → b ≡ (b && true)
kept_all true = refl
kept_all false = refl

keep_one : (kept neg t : ℕ) (d : Bool) → has t (cond d kept (without kept neg)) ≡ (has t kept && (d || not (has t neg)))
keep_one kept neg t true = kept_all (has t kept)
keep_one kept neg t false = has-without t kept neg

-- ---- all templates

abbrev pub KeptSoFar : Plan → ℕ → ℕ → ℕ → ℕ → Type 0
KeptSoFar plan worn declass kept x = (t : ℕ) → has t kept ≡ (has t worn && every x (keeps plan declass t))

module _ (plan : Plan) (worn declass : ℕ) where
  pub kept_start : KeptSoFar plan worn declass worn 0
  kept_start t = kept_all (has t worn) ∙ sym (ap (λ (b : Bool). has t worn && b) (every_none (keeps plan declass t)))

  pub kept_more : (kept x r : ℕ) → KeptSoFar plan worn declass kept x → r ≡ cond (has x declass) kept (without kept (get_or plan.templates x blank).neg)
      → KeptSoFar plan worn declass r (x + 1)
  unfolding keeps at
  kept_more kept x r s e t =
      ap (has t) e ∙ keep_one kept (get_or plan.templates x blank).neg t (has x declass) ∙ ap (λ (b : Bool). b && keeps plan declass t x) (s t)
      ∙ and_assoc (has t worn) (every x (keeps plan declass t)) (keeps plan declass t x)
      ∙ ap (λ (b : Bool). has t worn && b) (every_acc x (keeps plan declass t) (every x (keeps plan declass t)) refl)

  -- Past the places no template removes anything.
  kept_past : length plan.templates ≡ 64 → (t X : ℕ) → 64 ≤ X → keeps plan declass t X ≡ true
  unfolding keeps
  kept_past full t X h =
      ap (λ (a : Template). has X declass || not (has t a.neg)) (template_past plan full X h)
      ∙ ap (λ (b : Bool). has X declass || not b) (has_none t) ∙ or-true (has X declass)

  -- The row of templates was read, unless there is none.
  pub kept_end : (kept x n : ℕ) → KeptSoFar plan worn declass kept x → (0 < x → length plan.templates ≡ 64) → n ≡ min plan.count 64 → x ≤ n → n ≤ x
      → (t : ℕ) → has t kept ≡ (has t worn && every plan.count (keeps plan declass t))
  kept_end kept x n s full e l h t = s t ∙ ap (λ (b : Bool). has t worn && b) (whole (lt_or_le 0 x))
    where
      whole : (0 < x) ⊎ (x ≤ 0) → every x (keeps plan declass t) ≡ every plan.count (keeps plan declass t)
      whole (inl some) =
          let q : x ≡ min plan.count 64 = omega arith in
          ap (λ (k : ℕ). every k (keeps plan declass t)) q ∙ every_capped plan.count 64 (keeps plan declass t) (kept_past (full some) t)
      whole (inr none) = let q : x ≡ plan.count = omega arith in ap (λ (k : ℕ). every k (keeps plan declass t)) q
