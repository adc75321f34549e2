-- The row of a plan, back again: its templates are those of the words, and a plan with blank places past N is the very
-- plan that its row means.
use Prim.Native.Nat.{ℕ, ◌≤◌, ◌<◌}
use mathlib.Core.Path.{◌≡◌, refl, sym, ap, ◌∙◌}
use mathlib.Core.Logic.{◌⊎◌, inl, inr}
use mathlib.Core.Bool.{Bool, true, false, cond, ◌&&◌}
use mathlib.Core.List.{List}
use mathlib.Core.Option.{none, some}
use native.Mathlib.Omega.{arith}
use lib.ListN.{length, get_or}
use lib.Dec.{eqb, leb, ltb}
use borrow.Author.Tests.{lt-ltb, le-ltb, le-leb}
use Rattle.lists.specs.Numbers.{every}
use Rattle.lists.proofs.Every.{every_of}
use Rattle.lists.proofs.Tests.{lt_or_le, and_of}
use Rattle.lists.proofs.Tabulate.{tabulate_ext, tabulate_get_or}
use Rattle.lists.proofs.Length.{get_or-same}
use Rattle.plan.specs.declared.Form.{Form}
use Rattle.plan.specs.declared.Form.TheVariants.{End, Go, Either, Both}
use Rattle.plan.specs.declared.Template.{Template}
use Rattle.plan.specs.declared.Plan.{Plan}
use Rattle.plan.specs.Plan.{blank, at, masks, successors, Among, Successor}
use Rattle.plan.specs.Range.{InRange}
use Rattle.plan.proofs.Fitting.{successor_below}
use Rattle.text.specs.Reading.{no_plan}
use Rattle.planrow.specs.Row.{count_in, word_at, form_of, template_of, is_template, template_in, is_plan, plan_in, plan_of_row}
use Rattle.planrow.specs.Row.{form_number, first_of, second_of, words_of, row_of_plan}
use Rattle.planrow.proofs.Reading.{template_ext, is_template_ext, row_long}
use Rattle.planrow.proofs.Places.{row_identifiers, row_counted, row_count, row_word}

-- ---- a form and its words

form_back : (f : Form) → form_of (form_number f) (first_of f) (second_of f) ≡ f
unfolding form_of form_number first_of second_of
form_back End = refl
form_back (Go Y) = refl
form_back (Either Y Z) = refl
form_back (Both Y Z) = refl

number_low : (f : Form) → leb (form_number f) 3 ≡ true
unfolding form_number
number_low End = refl
number_low (Go Y) = refl
number_low (Either Y Z) = refl
number_low (Both Y Z) = refl

first_low : (f : Form) → ((Y : ℕ) → Among Y (successors f) → Y < 64) → leb (first_of f) 255 ≡ true
unfolding first_of successors
first_low End h = refl
first_low (Go Y) h = le-leb Y 255 (omega (arith, h Y (inl refl)))
first_low (Either Y Z) h = le-leb Y 255 (omega (arith, h Y (inl refl)))
first_low (Both Y Z) h = le-leb Y 255 (omega (arith, h Y (inl refl)))

second_low : (f : Form) → ((Y : ℕ) → Among Y (successors f) → Y < 64) → leb (second_of f) 255 ≡ true
unfolding second_of successors
second_low End h = refl
second_low (Go Y) h = refl
second_low (Either Y Z) h = le-leb Z 255 (omega (arith, h Z (inr (inl refl))))
second_low (Both Y Z) h = le-leb Z 255 (omega (arith, h Z (inr (inl refl))))

risk_low : (b : Bool) → leb (cond b 1 0) 1 ≡ true
risk_low true = refl
risk_low false = refl

risk_back : (b : Bool) → eqb (cond b 1 0) 1 ≡ b
risk_back true = refl
risk_back false = refl

-- ---- a template and its words

abbrev reader : Template → ℕ → ℕ
reader t k = get_or (words_of t) k 0

template_back : (t : Template) → template_of (reader t) ≡ t
unfolding template_of words_of masks
template_back t = λ i.
    record {
      form = form_back t.form i;
      lab = t.lab;
      pos = t.pos;
      neg = t.neg;
      creates = t.creates;
      risk = risk_back t.risk i;
    }

template_low : (t : Template) → ((Y : ℕ) → Among Y (successors t.form) → Y < 64) → is_template (reader t) ≡ true
unfolding is_template words_of masks
template_low t near =
    and_of _ _ (number_low t.form)
    (and_of _ _ (first_low t.form near) (and_of _ _ (second_low t.form near) (risk_low t.risk)))

-- ---- the row of a plan

module _ (plan : Plan) (few : plan.count ≤ 64) where
  abbrev row : List ℕ
  row = row_of_plan plan

  -- Each template of the plan is that of its words.
  pub row-template : (X : ℕ) → X < plan.count → template_in (row_of_plan plan) X ≡ at plan X
  unfolding template_in
  row-template X h = template_ext (word_at row X) (reader (at plan X)) (λ k. row_word plan few X k h) ∙ template_back (at plan X)

  module _ (near : (X Y : ℕ) → X < plan.count → Successor plan X Y → Y < 64) where
    is_template_lem : (X : ℕ) → X < plan.count → is_template (word_at row X) ≡ true
    is_template_lem X h =
        is_template_ext (word_at row X) (reader (at plan X)) (λ k. row_word plan few X k h) ∙ template_low (at plan X) (λ Y. near X Y h)

    pub row-plan : is_plan (row_of_plan plan) ≡ true
    unfolding is_plan
    row-plan =
        ap (λ (n : ℕ). leb n 64 && every n (λ X. is_template (word_at row X))) (row_count plan few)
        ∙ and_of _ _ (le-leb plan.count 64 few) (every_of plan.count (λ X. is_template (word_at row X)) is_template_lem)

  -- Where what is past N is blank too, the row means the very plan.
  module _ (unused : (X : ℕ) → plan.count ≤ X → at plan X ≡ blank) (sized : length plan.templates ≡ 64) where
    same_place : (X : ℕ) → X < 64 → cond (ltb X (count_in row)) (template_in row X) blank ≡ at plan X
    same_place X h = ap (λ (n : ℕ). cond (ltb X n) (template_in row X) blank) (row_count plan few) ∙ within (lt_or_le X plan.count)
      where
        within : (X < plan.count) ⊎ (plan.count ≤ X) → cond (ltb X plan.count) (template_in row X) blank ≡ at plan X
        within (inl l) = ap (λ (b : Bool). cond b (template_in row X) blank) (lt-ltb X plan.count l) ∙ row-template X l
        within (inr l) = ap (λ (b : Bool). cond b (template_in row X) blank) (le-ltb X plan.count l) ∙ sym (unused X l)

    pub same_plan : plan_in (row_of_plan plan) ≡ plan
    unfolding plan_in at
    same_plan = λ i.
        record {
          count = row_count plan few i;
          identifiers = row_identifiers plan i;
          templates = (tabulate_ext 64 _ (at plan) same_place ∙ tabulate_get_or 64 plan.templates blank sized) i;
        }

-- A plan of more templates has no row.
pub row_over : (plan : Plan) → 64 < plan.count → is_plan (row_of_plan plan) ≡ false
row_over plan h = row_long (row_of_plan plan) (omega (arith, row_counted plan))

module _ (plan : Plan) (few : plan.count ≤ 64) (near : (X Y : ℕ) → X < plan.count → Successor plan X Y → Y < 64)
    (unused : (X : ℕ) → plan.count ≤ X → at plan X ≡ blank) (sized : length plan.templates ≡ 64) where
  pub row_means : plan_of_row (row_of_plan plan) ≡ some plan
  unfolding plan_of_row
  row_means =
      ap (λ (b : Bool). cond b (some (plan_in (row_of_plan plan))) none) (row-plan plan few near)
      ∙ ap some (same_plan plan few unused sized)

-- So does that of every plan that was read,
pub round_trip : (plan : Plan) → InRange plan → plan_of_row (row_of_plan plan) ≡ some plan
round_trip plan range = row_means plan range.templates near range.unused range.places
  where
    near : (X Y : ℕ) → X < plan.count → Successor plan X Y → Y < 64
    near X Y h s = let k = successor_below plan range X Y s in let n = range.templates in omega arith

-- and that of the plan that a refused text hands back.
pub none_means : plan_of_row (row_of_plan no_plan) ≡ some no_plan
unfolding at
none_means = row_means no_plan (omega arith) (λ X Y h s. omega arith) (λ X h. get_or-same Template 64 X blank) refl
