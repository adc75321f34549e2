-- Where the words of a plan's row stand: the header's in front, and template X's from `begins X` on.
use Prim.Native.Nat.{ℕ, zero, ◌+◌, ◌*◌, ◌/◌, ◌%◌, min, ◌≤◌, ◌<◌}
use mathlib.Core.Path.{◌≡◌, refl, sym, ap, ap₂, ◌∙◌}
use mathlib.Core.Bool.{Bool, true, false, cond}
use native.Mathlib.Omega.{arith}
use lib.ListN.{length, get_or, length-append, get_or-append, get_or-eq_default}
use lib.Seq.{get_or-append-add}
use lib.Dec.{ltb}
use borrow.Author.Tests.{lt-ltb, le-ltb}
use Rattle.lists.specs.Numbers.{tabulate}
use Rattle.lists.proofs.Tabulate.{length-tabulate, get_or-tabulate}
use Rattle.lists.proofs.Length.{get_or-same}
use Rattle.plan.specs.declared.Plan.{Plan}
use Rattle.plan.specs.declared.Template.{Template}
use Rattle.plan.specs.Plan.{at, blank, masks}
use Rattle.planrow.specs.Row.{header, width, words, begins, count_in, identifiers_in, word_at, form_number, first_of, second_of, words_of, word_in, header_of, row_of_plan}

module _ (plan : Plan) where
  -- Word k of template X.
  pub word_here : (X k : ℕ) → X < plan.count → k < width → word_in plan (width * X + k) ≡ get_or (words_of (at plan X)) k 0
  unfolding word_in
  word_here X k h l =
      ap₂ (λ (x j : ℕ). cond (ltb x plan.count) (get_or (words_of (at plan x)) j 0) 0) whole left
      ∙ ap (λ (b : Bool). cond b (get_or (words_of (at plan X)) k 0) 0) (lt-ltb X plan.count h)
    where
      whole : (width * X + k) / width ≡ X
      whole = omega arith

      left : (width * X + k) % width ≡ k
      left = omega arith

  pub word_past : (j : ℕ) → plan.count ≤ j / width → word_in plan j ≡ 0
  unfolding word_in
  word_past j h =
      ap (λ (b : Bool). cond b (get_or (words_of (at plan (j / width))) (j % width) 0) 0) (le-ltb (j / width) plan.count h)

  -- A template that the plan has no place for is the blank one, whose words are 0.
  pub word_lacking : (j : ℕ) → length plan.templates ≤ j / width → word_in plan j ≡ 0
  unfolding word_in at words_of masks form_number first_of second_of
  word_lacking j h =
      ap (λ (t : Template). cond (ltb (j / width) plan.count) (get_or (words_of t) (j % width) 0) 0) (get_or-eq_default plan.templates blank h)
      ∙ ap (λ (k : ℕ). cond (ltb (j / width) plan.count) k 0) (get_or-same ℕ width (j % width) 0)
      ∙ same (ltb (j / width) plan.count)
    where
      same : (b : Bool) → cond b zero zero ≡ zero
      same true = refl
      same false = refl

  length-header : length (header_of plan) ≡ header
  unfolding header_of
  length-header = refl

  pub length-row : length (row_of_plan plan) ≡ words
  unfolding row_of_plan
  length-row =
      length-append (header_of plan) (tabulate (width * 64) (word_in plan))
      ∙ ap₂ ◌+◌ length-header (length-tabulate (width * 64) (word_in plan))

  pub row_front : (j : ℕ) → j < header → get_or (row_of_plan plan) j 0 ≡ get_or (header_of plan) j 0
  unfolding row_of_plan
  row_front j h = get_or-append (header_of plan) _ 0 j (omega (arith, length-header))

  pub row_behind : (j : ℕ) → j < width * 64 → get_or (row_of_plan plan) (header + j) 0 ≡ word_in plan j
  unfolding row_of_plan
  row_behind j h =
      ap (λ (n : ℕ). get_or (row_of_plan plan) (n + j) 0) (sym length-header)
      ∙ get_or-append-add (header_of plan) _ j 0
      ∙ get_or-tabulate (width * 64) (word_in plan) j 0 h

  pub row_identifiers : identifiers_in (row_of_plan plan) ≡ plan.identifiers
  unfolding identifiers_in header_of
  row_identifiers = row_front 1 (omega arith)

  pub row_counted : count_in (row_of_plan plan) ≡ min plan.count 65
  unfolding count_in header_of
  row_counted = row_front 0 (omega arith)

  module _ (few : plan.count ≤ 64) where
    pub row_count : count_in (row_of_plan plan) ≡ plan.count
    row_count = row_counted ∙ least plan.count few
      where
        least : (n : ℕ) → n ≤ 64 → min n 65 ≡ n
        least n h = omega arith

    pub row_word : (X k : ℕ) → X < plan.count → k < width → word_at (row_of_plan plan) X k ≡ get_or (words_of (at plan X)) k 0
    unfolding word_at
    row_word X k h l =
        ap (λ (j : ℕ). get_or (row_of_plan plan) j 0) place ∙ row_behind (width * X + k) (omega arith) ∙ word_here X k h l
      where
        place : begins X + k ≡ header + (width * X + k)
        place = omega arith
