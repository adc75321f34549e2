-- A template looked up in a row is that of the plan that the row stands for.
use Prim.Native.Nat.{ℕ, ◌<◌}
use mathlib.Core.Path.{◌≡◌, refl, sym, ap, ap₂, subst, ◌∙◌}
use mathlib.Core.Bool.{Bool, true, false, cond}
use mathlib.Core.List.{List}
use mathlib.Core.Option.{none, some}
use native.Mathlib.Omega.{arith}
use Rattle.std.proofs.Common.{Option, Some, None}
use Rattle.std.specs.Option.{is_some, IfSome, MatchOption, UnwrapsOrElse}
use denote.Bor.{Bor}
use lib.ListN.{length, get_or}
use lib.Dec.{ltb}
use borrow.Author.Tests.{lt-ltb, ltb-true}
use Rattle.lists.specs.Numbers.{tabulate}
use Rattle.lists.proofs.Tabulate.{length-tabulate, get_or-tabulate}
use Rattle.plan.specs.declared.Template.{Template}
use Rattle.plan.specs.declared.Plan.{Plan}
use Rattle.plan.specs.Plan.{blank, at}
use Rattle.text.specs.Reading.{no_plan}
use Rattle.planrow.specs.Row.{count_in, identifiers_in, word_at, template_of, is_template, template_in, is_plan, plan_in, plan_of_row}
use Rattle.planrow.specs.Lookup.{part_at, word, template_meant, plan_for, template_at}
use Rattle.planrow.proofs.Parts.{part-tested, part-template}
use Rattle.planrow.proofs.Reading.{plan_count, plan-template}

-- ---- the ways of a look-up

module _ (row : List ℕ) (X : ℕ) where
  inside : ltb X 64 ≡ true → template_at row X ≡ cond (is_template (word_at row X)) (template_in row X) blank
  unfolding template_at
  inside e = rw e refl

  past : ltb X 64 ≡ false → template_at row X ≡ blank
  unfolding template_at
  past e = rw e refl

  long : (all : List (List ℕ)) → all ≡ tabulate 64 (part_at row) → ltb X (length all) ≡ ltb X 64
  long all e = ap (ltb X) (ap length e ∙ length-tabulate 64 (part_at row))

  -- Of all templates' words the code gets those at X; o is the template that they stand for, r that or the blank one.
  pub looked : (all : List (List ℕ)) → all ≡ tabulate 64 (part_at row)
      → (got : Option (Bor (List ℕ))) → is_some got ≡ ltb X (length all) → IfSome got (λ ws. ws.now ≡ get_or all X ws.now)
      → (o : Option Template) → MatchOption got (o ≡ None) (λ ws. o ≡ template_meant (word ws.now))
      → (r : Template) → UnwrapsOrElse o (λ t. t ≡ blank) r → r ≡ template_at row X
  looked all e None s i o eo r u = subst (λ (o : Option Template). UnwrapsOrElse o (λ t. t ≡ blank) r) eo u ∙ sym (past (sym (s ∙ long all e)))
  looked all e (Some ws) s i o eo r u =
      or_blank (is_template (word ws.now)) (template_of (word ws.now)) (subst (λ (o : Option Template). UnwrapsOrElse o (λ t. t ≡ blank) r) eo u)
      ∙ ap₂ (λ (b : Bool) (t : Template). cond b t blank) (part-tested row X ws.now w) (part-template row X ws.now w)
      ∙ sym (inside l)
    where
      l : ltb X 64 ≡ true
      l = sym (s ∙ long all e)

      w : ws.now ≡ part_at row X
      w = i ∙ ap (λ (all : List (List ℕ)). get_or all X ws.now) e ∙ get_or-tabulate 64 (part_at row) X ws.now (ltb-true X 64 l)

      or_blank : (b : Bool) (t : Template) → UnwrapsOrElse (cond b (Some t) None) (λ t. t ≡ blank) r → r ≡ cond b t blank
      or_blank true t u = u
      or_blank false t u = u

-- ---- a row that means a plan

pub stands_not : (row : List ℕ) → is_plan row ≡ false → plan_for row ≡ no_plan
unfolding plan_for
stands_not row e = rw e

-- What `plan_of_row` says of the test.
pub means_none : (row : List ℕ) → plan_of_row row ≡ none → is_plan row ≡ false
unfolding plan_of_row
means_none row e = pick (is_plan row) e
  where
    pick : (b : Bool) → cond b (some (plan_in row)) none ≡ none → b ≡ false
    pick true q = cc
    pick false q = refl

-- It stands for the plan that it means.
pub stands_for : (row : List ℕ) (plan : Plan) → plan_of_row row ≡ some plan → plan_for row ≡ plan
unfolding plan_of_row plan_for
stands_for row plan e = pick (is_plan row) e
  where
    pick : (b : Bool) → cond b (some (plan_in row)) none ≡ some plan → cond b (plan_in row) no_plan ≡ plan
    pick true q = cc
    pick false q = cc

module _ (row : List ℕ) (e : is_plan row ≡ true) where
  pub stands_so : plan_for row ≡ plan_in row
  unfolding plan_for
  stands_so = rw e

  pub stands_count : (plan_for row).count ≡ count_in row
  unfolding plan_in
  stands_count = ap (λ (p : Plan). p.count) stands_so

  pub stands_identifiers : (plan_for row).identifiers ≡ identifiers_in row
  unfolding plan_in
  stands_identifiers = ap (λ (p : Plan). p.identifiers) stands_so

  pub stands_at : (X : ℕ) → X < count_in row → at (plan_for row) X ≡ template_in row X
  unfolding at plan_in
  stands_at X h =
      ap (λ (p : Plan). get_or p.templates X blank) stands_so
      ∙ get_or-tabulate 64 (λ X. cond (ltb X (count_in row)) (template_in row X) blank) X blank (let q = plan_count row e in omega arith)
      ∙ ap (λ (b : Bool). cond b (template_in row X) blank) (lt-ltb X (count_in row) h)

  pub looked_up : (X : ℕ) → X < count_in row → template_at row X ≡ at (plan_for row) X
  looked_up X h =
      inside row X (lt-ltb X 64 (let q = plan_count row e in omega arith))
      ∙ ap (λ (b : Bool). cond b (template_in row X) blank) (plan-template row e X h) ∙ sym (stands_at X h)
