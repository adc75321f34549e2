-- A plan text that is too long, refused at a line or read to its end: a refused text hands back the blank plan.
use Prim.Native.Nat.{ℕ, zero, suc, ◌-◌, ◌≤◌}
use mathlib.Core.Path.{◌≡◌, refl, sym, ap, ◌∙◌}
use mathlib.Core.List.{List, [], ◌∷◌, ◌++◌}
use native.Mathlib.Omega.{arith}
use lib.ListN.{replicate}
use Rattle.std.specs.Prelude.{Result, Ok, Err, IsErrAnd}
use Rattle.plan.specs.declared.{Plan.{Plan}, Template.{Template}}
use Rattle.plan.specs.Plan.{blank}
use Rattle.field.specs.Fields.{number}
use Rattle.text.specs.Reading.{Cursor, on, Step, line, entry, entries, plan, closed, no_plan, read_plan}
use Rattle.text.specs.Answers.{reading_of, plan_read}
use Rattle.text.specs.Cursors.{standing, stopped_at, Started, Gives}
use Rattle.text.specs.declared.Refused.{Refused as RefusedLine}
use Rattle.text.specs.declared.Lines.{Lines}
use Rattle.text.proofs.Opening.{gives_value, gives_stop}
use Rattle.text.proofs.Ending.{text_long, text_stop, end_stop, text_whole}
use Rattle.text.proofs.Passed.{entries-passes}
use Rattle.reader.specs.Rows.{stood_then, template_row}
use Rattle.reader.proofs.Filling.{items, filled_all}
use Rattle.reader.proofs.Live.{count_read}

-- The templates of the definition are the items of the row.
entries_items : (N M more : ℕ) (stood : List (List ℕ)) (c : Cursor) → entries N M stood more c ≡ items (entry N M) stood_then (λ e. e.template) stood more c
unfolding entries items
entries_items N M zero stood c = refl
entries_items N M (suc more) stood c =
    let e = entry N M stood c in
    ap (λ (s : Step (List Template)). record { value = e.value.template ∷ s.value; next = s.next }) (entries_items N M more (e.value.name ∷ stood) e.next)

row_all : (N M : ℕ) (c : Cursor) → N ≤ 64
    → template_row N M c ≡ record { value = (entries N M [] N c).value ++ replicate (64 - N) blank; next = (entries N M [] N c).next }
row_all N M c h =
    filled_all (entry N M) stood_then (λ e. e.template) [] N 64 blank c h
    ∙ ap (λ (s : Step (List Template)). record { value = s.value ++ replicate (64 - N) blank; next = s.next }) (sym (entries_items N M N [] c))

-- ---- the lines of a plan, one after the other

module _ (c : Cursor) where
  plan_first : (e : RefusedLine) → (line 0 "templates=" (number 3 1 65) c).next ≡ stopped_at e → (plan c).next ≡ stopped_at e
  unfolding plan line
  plan_first e h = rw h ((entries-passes _ _ _ []).stays _ _)

  module _ (N : ℕ) (c₁ : Cursor) (a₁ : line 0 "templates=" (number 3 1 65) c ≡ record { value = N; next = c₁ }) where
    plan_second : (e : RefusedLine) → (line 0 "identifiers=" (number 3 0 33) c₁).next ≡ stopped_at e → (plan c).next ≡ stopped_at e
    unfolding plan line
    plan_second e h = rw (a₁, h) ((entries-passes _ _ _ []).stays _ _)

    module _ (M : ℕ) (c₂ : Cursor) (a₂ : line 0 "identifiers=" (number 3 0 33) c₁ ≡ record { value = M; next = c₂ }) (h : N ≤ 64) where
      plan_rows : (ts : List Template) (c₃ : Cursor) → template_row N M c₂ ≡ record { value = ts; next = c₃ }
          → plan c ≡ record { value = record { count = N; identifiers = M; templates = ts }; next = c₃ }
      unfolding plan
      plan_rows ts c₃ a₃ =
          rw (a₁, a₂)
          (ap (λ (s : Step (List Template)). record { value = record { count = N; identifiers = M; templates = s.value }; next = s.next }) (sym (row_all N M c₂ h) ∙ a₃))

      plan_third : (e : RefusedLine) → (template_row N M c₂).next ≡ stopped_at e → (plan c).next ≡ stopped_at e
      unfolding plan
      plan_third e k = rw (a₁, a₂) (ap (λ (s : Step (List Template)). s.next) (sym (row_all N M c₂ h)) ∙ k)

-- ---- the answer

-- What a text answers that is too long, or refused at a line.
module _ (text : List ℕ) (x : Result Lines RefusedLine) (s : Started text x) where
  abbrev Refuses : RefusedLine → Type 0
  Refuses e = (r : Result Plan RefusedLine) → IsErrAnd r (λ w. w ≡ e) → plan_read r ≡ read_plan text

  pub plan_long : (e : RefusedLine) → x ≡ Err e → Refuses e
  unfolding read_plan
  plan_long = text_long (λ a p. record { answer = a; plan = p }) no_plan plan plan_read (λ v. refl) (λ e. refl) text x s

  module _ (lines : Lines) (l : x ≡ Ok lines) where
    plan_stop : (e : RefusedLine) → (plan (standing lines)).next ≡ stopped_at e → Refuses e
    unfolding read_plan
    plan_stop = text_stop (λ a p. record { answer = a; plan = p }) no_plan plan plan_read (λ v. refl) (λ e. refl) text x s lines l

    pub templates_stop : (e : RefusedLine) → (line 0 "templates=" (number 3 1 65) (standing lines)).next ≡ stopped_at e → Refuses e
    templates_stop e h = plan_stop e (plan_first (standing lines) e h)

    module _ (N : ℕ) (text₁ : List ℕ) (k₁ : ℕ) (a₁ : line 0 "templates=" (number 3 1 65) (standing lines) ≡ record { value = N; next = on text₁ k₁ }) where
      -- A count that was read has room for its templates.
      pub most_templates : N ≤ 64
      most_templates = let h = count_read 1 65 "templates=" (standing lines) N text₁ k₁ a₁ in omega (arith, h)

      pub identifiers_stop : (e : RefusedLine) → (line 0 "identifiers=" (number 3 0 33) (on text₁ k₁)).next ≡ stopped_at e → Refuses e
      identifiers_stop e h = plan_stop e (plan_second (standing lines) N (on text₁ k₁) a₁ e h)

      module _ (M : ℕ) (c₂ : Cursor) (a₂ : line 0 "identifiers=" (number 3 0 33) (on text₁ k₁) ≡ record { value = M; next = c₂ })
          (t : Result (List Template) RefusedLine) (c₃ : Cursor) (g : Gives (λ row. row) (template_row N M c₂) c₃ t) where
        pub entries_stop : (e : RefusedLine) → t ≡ Err e → Refuses e
        entries_stop e q =
            plan_stop e (plan_third (standing lines) N (on text₁ k₁) a₁ M c₂ a₂ most_templates e (gives_stop (λ row. row) _ c₃ t g e q))

        module _ (ts : List Template) (q : t ≡ Ok ts) (y : Result (Unit {0}) RefusedLine) (k : reading_of y ≡ closed c₃) where
          abbrev whole : Plan
          whole = record { count = N; identifiers = M; templates = ts }

          rows : plan (standing lines) ≡ record { value = whole; next = c₃ }
          rows = plan_rows (standing lines) N (on text₁ k₁) a₁ M c₂ a₂ most_templates ts c₃ (gives_value (λ row. row) _ c₃ t g ts q)

          pub plan_end : (e : RefusedLine) → y ≡ Err e → Refuses e
          unfolding read_plan
          plan_end = end_stop (λ a p. record { answer = a; plan = p }) no_plan plan plan_read (λ v. refl) (λ e. refl) text x s lines l whole c₃ rows y k

          pub plan_whole : (u : Unit {0}) → y ≡ Ok u → plan_read (Ok whole) ≡ read_plan text
          unfolding read_plan
          plan_whole = text_whole (λ a p. record { answer = a; plan = p }) no_plan plan plan_read (λ v. refl) (λ e. refl) text x s lines l whole c₃ rows y k
