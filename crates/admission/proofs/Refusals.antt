-- Refusals 22 to 25, as the code meets them: each callee's result is a variable, and what it ensures a premise.
use Prim.Native.Nat.{ℕ, ◌+◌, ◌≤◌, ◌<◌}
use mathlib.Core.Path.{◌≡◌, refl, sym, ap, ap₂, ◌∙◌}
use mathlib.Core.Bool.{Bool, true, false, not, cond, ◌&&◌, ◌||◌}
use mathlib.Core.Logic.{◌⊎◌, inl, inr}
use native.Mathlib.Omega.{arith}
use lib.Dec.{ltb, leb, eqb}
use lib.Bits.{bit_or}
use Rattle.std.specs.Prelude.{List, [], ◌∷◌, length, Option, Some, None, is_some}
use Rattle.std.specs.List.{list_all}
use borrow.Author.Tests.{eq-eqb, ne_eqb, leb-true, le-leb, lt-leb, ltb-true, ltb-false, not-false}
use Rattle.lists.specs.Numbers.{every, all, lowest}
use Rattle.lists.proofs.Tests.{same_test}
use Rattle.lists.proofs.Every.{every_at, every_of}
use Rattle.lists.proofs.Lowest.{lowest-below, lowest_none}
use Rattle.mask.specs.Mask.{has}
use Rattle.mask.specs.Sets.{Marks}
use Rattle.mask.proofs.Items.{has_or}
use Rattle.plan.specs.declared.Template.{Template}
use Rattle.rules.specs.Judge.{offends12, offends13, offends16, step_rules}
use Rattle.machine.specs.declared.Answer.TheVariants.{Done, Refused}
use Rattle.machine.specs.Machine.{refuse_if, branch_fits}
use Rattle.machine.proofs.Outcomes.{refuse_yes, refuse_no}
use Rattle.offenders.specs.Lowest.{lowest_of}
use Rattle.population.specs.declared.Child.{Child}
use Rattle.admission.specs.Admission.{innocent, fitting, all_fitting, refusal_of}

-- ---- 25

-- What offends against one of the three rows.
pub offences_gathered : (label : ℕ) (X Y : Template) (m₁₂ m₁₃ m₁₆ : ℕ)
    → Marks m₁₂ (offends12 label X Y) → Marks m₁₃ (offends13 label X Y) → Marks m₁₆ (offends16 label X Y)
    → Marks (bit_or m₁₂ (bit_or m₁₃ m₁₆)) (λ i. not (innocent label X Y i))
unfolding innocent step_rules all
offences_gathered label X Y m₁₂ m₁₃ m₁₆ h₁₂ h₁₃ h₁₆ i =
    has_or i m₁₂ (bit_or m₁₃ m₁₆)
    ∙ ap₂ ◌||◌ (h₁₂ i) (has_or i m₁₃ m₁₆ ∙ ap₂ ◌||◌ (h₁₃ i) (h₁₆ i))
    ∙ some (offends12 label X Y i) (offends13 label X Y i) (offends16 label X Y i)
  where
    some : (a b c : Bool) → (a || (b || c)) ≡ not (not a && (not b && (not c && true)))
    some true b c = refl
    some false true c = refl
    some false false true = refl
    some false false false = refl

-- A lowest offender that is not below M: none of M is one.
pub fits_one : (M label : ℕ) (X Y : Template) (w : ℕ) (o : Option ℕ) → Marks w (λ i. not (innocent label X Y i)) → o ≡ lowest_of M (λ i. has i w)
    → (none : Bool) → is_some o ≡ not none → none ≡ fitting M label X Y
unfolding fitting
fits_one M label X Y w o marks e none told =
    turned none ∙ ap not (sym told ∙ ap is_some e) ∙ past (ltb l M) refl
    ∙ same_test (leb M l) (every M (innocent label X Y))
    (λ t. every_of M (innocent label X Y) (λ i h.
    not-false (innocent label X Y i) (sym (marks i) ∙ lowest-below M (λ i. has i w) i (let g = leb-true M l t in omega arith))))
    (λ t. le-leb M l (let g = lowest_none M (λ i. has i w) (λ i h. marks i ∙ ap not (every_at M (innocent label X Y) t i h)) in omega arith))
  where
    l : ℕ
    l = lowest M (λ i. has i w)

    turned : (b : Bool) → b ≡ not (not b)
    turned true = refl
    turned false = refl

    past : (b : Bool) → ltb l M ≡ b → not (is_some (cond b (Some l) None)) ≡ leb M l
    past true h = sym (lt-leb M l (ltb-true l M h))
    past false h = sym (le-leb M l (ltb-false l M h))

-- The library's test of each child.
pub fits_all : (M label : ℕ) (X : Template) (children : List Child)
    → list_all (λ (child : Child). fitting M label X child.template) children ≡ all_fitting M label X children
unfolding all all_fitting
fits_all M label X [] = refl
fits_all M label X (child ∷ rest) = ap (λ (b : Bool). fitting M label X child.template && b) (fits_all M label X rest)

-- ---- the first that holds

module _ (M next live label : ℕ) (X : Template) (branch : ℕ) (children : List Child) (b : Bool) (eb : b ≡ branch_fits X.form branch) where
  pub refused_22 : b ≡ false → Refused 22 ≡ refusal_of M next live label X branch children
  unfolding refusal_of
  refused_22 h = sym (refuse_yes (not (branch_fits X.form branch)) 22 _ (ap not (sym eb ∙ h)))

  module _ (h : b ≡ true) where
    abbrev count : ℕ
    count = length children

    from_23 : refusal_of M next live label X branch children
        ≡ refuse_if (eqb count 2 && not (leb (live + 1) 128)) 23 (refuse_if (not (leb (next + count) 4294967295)) 24 (refuse_if (not (all_fitting M label X children)) 25 Done))
    unfolding refusal_of
    from_23 = refuse_no (not (branch_fits X.form branch)) 22 _ (ap not (sym eb ∙ h))

    pub refused_23 : length children ≡ 2 → 128 ≤ live → Refused 23 ≡ refusal_of M next live label X branch children
    refused_23 two full =
        sym (from_23 ∙ refuse_yes _ 23 _ (ap₂ (λ (a b : Bool). a && not b) (eq-eqb count 2 two) (lt-leb (live + 1) 128 (omega arith))))

    module _ (room : ((length children ≡ 2) × (live < 128)) ⊎ (length children ≡ 2 → ⊥)) where
      from_24 : refusal_of M next live label X branch children
          ≡ refuse_if (not (leb (next + count) 4294967295)) 24 (refuse_if (not (all_fitting M label X children)) 25 Done)
      from_24 = from_23 ∙ refuse_no _ 23 _ (spare room)
        where
          spare : ((count ≡ 2) × (live < 128)) ⊎ (count ≡ 2 → ⊥) → (eqb count 2 && not (leb (live + 1) 128)) ≡ false
          spare (inl p) = let l = p.1 in ap₂ (λ (a b : Bool). a && not b) (eq-eqb count 2 p.0) (le-leb (live + 1) 128 (omega arith))
          spare (inr n) = ap (λ (a : Bool). a && not (leb (live + 1) 128)) (ne_eqb count 2 n)

      pub refused_24 : 4294967295 < next + length children → Refused 24 ≡ refusal_of M next live label X branch children
      refused_24 l = sym (from_24 ∙ refuse_yes _ 24 _ (ap not (lt-leb (next + count) 4294967295 (omega arith))))

      module _ (l : next + length children ≤ 4294967295) (a : Bool) (ea : a ≡ all_fitting M label X children) where
        from_25 : refusal_of M next live label X branch children ≡ refuse_if (not (all_fitting M label X children)) 25 Done
        from_25 = from_24 ∙ refuse_no _ 24 _ (ap not (le-leb (next + count) 4294967295 (omega arith)))

        pub refused_25 : a ≡ false → Refused 25 ≡ refusal_of M next live label X branch children
        refused_25 r = sym (from_25 ∙ refuse_yes _ 25 _ (ap not (sym ea ∙ r)))

        pub refused_none : a ≡ true → Done ≡ refusal_of M next live label X branch children
        refused_none r = sym (from_25 ∙ refuse_no _ 25 _ (ap not (sym ea ∙ r)))
