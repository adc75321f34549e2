-- What the readers of a row meet: a form by its number, a template by its words, the tests one by one.
use Prim.Native.Nat.{ℕ, zero, suc, ◌≤◌, ◌<◌}
use mathlib.Core.Path.{◌≡◌, refl, sym, ap, ◌∙◌}
use mathlib.Core.Bool.{Bool, true, false, ◌&&◌, and_assoc}
use mathlib.Core.List.{List}
use native.Mathlib.Omega.{arith}
use Rattle.std.proofs.Common.{Some}
use lib.Dec.{eqb, leb}
use mir.Val.{Fits}
use mir.Syntax.{w8}
use borrow.Author.Tests.{lt-leb, leb-true}
use Rattle.lists.proofs.Tests.{and_left, and_right}
use Rattle.lists.proofs.Every.{every_at}
use Rattle.plan.specs.declared.{Form.{Form, TheVariants.{End, Go, Either, Both}}, Template.{Template}}
use Rattle.planrow.specs.Row.{width, count_in, word_at, form_of, template_of, is_template, is_plan}
use Rattle.planrow.specs.Lookup.{word, template_meant}

-- ---- a form by its number

pub form_end : (n Y Z : ℕ) → n ≡ 0 → End ≡ form_of n Y Z
unfolding form_of
form_end n Y Z e = rw e

pub form_go : (n Y Z : ℕ) → n ≡ 1 → Go Y ≡ form_of n Y Z
unfolding form_of
form_go n Y Z e = rw e

pub form_either : (n Y Z : ℕ) → n ≡ 2 → Either Y Z ≡ form_of n Y Z
unfolding form_of
form_either n Y Z e = rw e

pub form_both : (n Y Z : ℕ) → (n ≡ 0 → ⊥) → (n ≡ 1 → ⊥) → (n ≡ 2 → ⊥) → Both Y Z ≡ form_of n Y Z
unfolding form_of
form_both zero Y Z a b c = absurd (a refl)
form_both (suc zero) Y Z a b c = absurd (b refl)
form_both (suc (suc zero)) Y Z a b c = absurd (c refl)
form_both (suc (suc (suc n))) Y Z a b c = refl

-- ---- a template by its words

-- Readers that agree on a template's words read the same one.
pub template_ext : (v w : ℕ → ℕ) → ((k : ℕ) → k < width → v k ≡ w k) → template_of v ≡ template_of w
unfolding template_of
template_ext v w e = λ i.
    record {
      form = form_of (e 0 (omega arith) i) (e 1 (omega arith) i) (e 2 (omega arith) i);
      lab = e 3 (omega arith) i;
      pos = e 4 (omega arith) i;
      neg = e 5 (omega arith) i;
      creates = e 6 (omega arith) i;
      risk = eqb (e 7 (omega arith) i) 1;
    }

pub is_template_ext : (v w : ℕ → ℕ) → ((k : ℕ) → k < width → v k ≡ w k) → is_template v ≡ is_template w
unfolding is_template
is_template_ext v w e = λ i.
    leb (e 0 (omega arith) i) 3
    && (leb (e 1 (omega arith) i) 255 && (leb (e 2 (omega arith) i) 255 && leb (e 7 (omega arith) i) 1))

module _ (ws : List ℕ) where
  -- As the code tests them,
  pub tested : (leb (word ws 0) 3 && leb (word ws 1) 255 && leb (word ws 2) 255 && leb (word ws 7) 1) ≡ is_template (word ws)
  unfolding is_template
  tested =
      and_assoc (leb (word ws 0) 3 && leb (word ws 1) 255) (leb (word ws 2) 255) (leb (word ws 7) 1)
      ∙ and_assoc (leb (word ws 0) 3) (leb (word ws 1) 255) (leb (word ws 2) 255 && leb (word ws 7) 1)

  -- and as it makes it of its words.
  abbrev made : Form → Template
  made form = record { form = form; lab = word ws 3; pos = word ws 4; neg = word ws 5; creates = word ws 6; risk = eqb (word ws 7) 1 }

  module _ (e : true ≡ is_template (word ws)) where
    pub template_told : (form : Form) → form ≡ form_of (word ws 0) (word ws 1) (word ws 2) → Some (made form) ≡ template_meant (word ws)
    unfolding template_of
    template_told form q = rw (sym e) (ap (λ (form : Form). Some (made form)) q)

    rest : (leb (word ws 1) 255 && (leb (word ws 2) 255 && leb (word ws 7) 1)) ≡ true
    unfolding is_template
    rest = and_right (leb (word ws 0) 3) _ (sym e)

    pub first_byte : Fits w8 (word ws 1)
    first_byte = let h : word ws 1 ≤ 255 = leb-true _ _ (and_left (leb (word ws 1) 255) _ rest) in omega arith

    pub second_byte : Fits w8 (word ws 2)
    second_byte = let h : word ws 2 ≤ 255 = leb-true _ _ (and_left (leb (word ws 2) 255) _ (and_right (leb (word ws 1) 255) _ rest)) in omega arith

-- ---- the tests of a row

module _ (row : List ℕ) where
  abbrev is_template_at : ℕ → Bool
  is_template_at X = is_template (word_at row X)

  pub row_long : 64 < count_in row → is_plan row ≡ false
  unfolding is_plan
  row_long h = rw (lt-leb (count_in row) 64 h)

  module _ (e : is_plan row ≡ true) where
    pub plan_count : count_in row ≤ 64
    unfolding is_plan
    plan_count = leb-true _ _ (and_left (leb (count_in row) 64) _ e)

    pub plan-template : (X : ℕ) → X < count_in row → is_template (word_at row X) ≡ true
    unfolding is_plan
    plan-template X h = every_at (count_in row) is_template_at (and_right (leb (count_in row) 64) _ e) X h
