-- The templates of a plan: what is written reads back, with its names, and only what is written reads; and the names that
-- are read are valid.
use Prim.Native.Nat.{ℕ, zero, suc, ◌≤◌, ◌<◌}
use mathlib.Core.Path.{◌≡◌, refl, sym, ◌∙◌}
use mathlib.Core.List.{List, [], ◌∷◌, ◌++◌, append_assoc, flatten}
use mathlib.Core.Bool.{true, false}
use mathlib.Core.Logic.{◌≢◌, inl, inr}
use native.Mathlib.Omega.{arith}
use lib.ListN.{get_or}
use Rattle.lists.specs.Numbers.{tabulate}
use Rattle.lists.proofs.Tests.{fails, or_neither}
use Rattle.plan.specs.declared.{Form.TheVariants.{End}, Template.{Template}}
use Rattle.plan.specs.Plan.{blank, masks, template_fits, Among}
use Rattle.plan.proofs.Fitting.{successor_fits, mask_fits}
use Rattle.scan.specs.Bytes.{same, stands_in}
use Rattle.field.specs.Fields.{is, bad, name}
use Rattle.field.specs.Answers.{is_name}
use Rattle.field.proofs.Each.{Each, each_is, each_bad, each_if}
use Rattle.text.specs.Reading.{Cursor, on, entry, entries}
use Rattle.text.proofs.Passed.{Live, entry-passes, passes_live, entries-passes}
use Rattle.reader.specs.Names.{names}
use Rattle.reader.proofs.{Rows.{row_cons}, Live.{line_each}}
use Rattle.printing.specs.Printing.{print_template}
use Rattle.printing.proofs.Bytes.{same_eq}
use Rattle.printing.proofs.Fields.{Masked, mask_law, Fresh, name_law, risk_law}
use Rattle.printing.proofs.Forms.{form_law}
use Rattle.printing.proofs.Lines.{Wrote, none_wrote, ◌⨟◌, ◌⊕◌, line_back, line_only}
use Rattle.printing.proofs.Texts.{past, Printed, masked}

-- ---- one template

pub entry_back : (N M : ℕ) → N ≤ 64 → M ≤ 32 → (stood : List (List ℕ)) (n : List ℕ) (t : Template) → template_fits N M t ≡ true → Fresh stood n
    → Printed (entry N M stood) (print_template n t) (record { name = n; template = t }) 107
unfolding entry print_template masks
entry_back N M few less stood n t fits fresh =
    let onward = successor_fits N M t fits in
    let over : (m : ℕ) → Among m (masks t) → Masked 8 M m = λ m a. masked 8 M m less refl (mask_fits N M t fits m a) in
    let n₁ = line_back (name_law stood) "name=" refl n fresh in
    let f = line_back (form_law N) "form=" refl t.form (λ Y m. (omega arith, onward Y m, omega (arith, onward Y m))) in
    let l = line_back (mask_law 8 M) "lab=" refl t.lab (over t.lab (inl refl)) in
    let p = line_back (mask_law 8 M) "pos=" refl t.pos (over t.pos (inr (inl refl))) in
    let g = line_back (mask_law 8 M) "neg=" refl t.neg (over t.neg (inr (inr (inl refl)))) in
    let c = line_back (mask_law 8 M) "creates=" refl t.creates (over t.creates (inr (inr (inr (inl refl))))) in
    let r = line_back risk_law "risk=" refl t.risk tt in
    record {
      back = λ rest k. (past 7 k, simp append_assoc (rw (n₁.back, f.back, l.back, p.back, g.back, c.back, r.back)));
      short = n₁.short ⊕ f.short ⊕ l.short ⊕ p.short ⊕ g.short ⊕ c.short ⊕ r.short;
    }

entry_only : (N M : ℕ) (stood : List (List ℕ)) (c : Cursor) → let e = entry N M stood c in
    Wrote c (print_template e.value.name e.value.template) e.next
unfolding entry print_template
entry_only N M stood c =
    line_only (name_law stood) "name=" [] c
    ⨟ line_only (form_law N) "form=" End _
    ⨟ line_only (mask_law 8 M) "lab=" 0 _
    ⨟ line_only (mask_law 8 M) "pos=" 0 _
    ⨟ line_only (mask_law 8 M) "neg=" 0 _
    ⨟ line_only (mask_law 8 M) "creates=" 0 _
    ⨟ line_only risk_law "risk=" false _

-- ---- the templates

module _ (N M : ℕ) (stood : List (List ℕ)) where
  entries_none : (c : Cursor) → entries N M stood zero c ≡ record { value = []; next = c }
  unfolding entries
  entries_none c = refl

  names_none : (c : Cursor) → names N M stood zero c ≡ []
  unfolding names
  names_none c = refl

  entries_step : (more : ℕ) (c : Cursor) → let e = entry N M stood c in let r = entries N M (e.value.name ∷ stood) more e.next in
      entries N M stood (suc more) c ≡ record { value = e.value.template ∷ r.value; next = r.next }
  unfolding entries
  entries_step more c = refl

  names_step : (more : ℕ) (c : Cursor) → let e = entry N M stood c in
      names N M stood (suc more) c ≡ e.value.name ∷ names N M (e.value.name ∷ stood) more e.next
  unfolding names
  names_step more c = refl

-- A name that differs from the first is none of those that stood after it either.
fresh_still : (m n : List ℕ) (stood : List (List ℕ)) → Fresh stood m → n ≢ m → Fresh (n ∷ stood) m
unfolding stands_in
fresh_still m n stood h d =
    (h.0, or_neither (same m n) (stands_in m stood) (fails (same m n) (λ e. d (sym (same_eq m n e)))) h.1)

-- Templates one after the other, as they are written.
abbrev pub templates_of : ℕ → (ℕ → List ℕ) → (ℕ → Template) → List ℕ
templates_of more n t = flatten (tabulate more (λ X. print_template (n X) (t X)))

module _ (N M : ℕ) (few : N ≤ 64) (less : M ≤ 32) where
  pub entries_read : (more : ℕ) (n : ℕ → List ℕ) (t : ℕ → Template) (stood : List (List ℕ)) → ((i : ℕ) → i < more → template_fits N M (t i) ≡ true)
      → ((i : ℕ) → i < more → Fresh stood (n i)) → ((i j : ℕ) → i < j → j < more → n i ≢ n j) → (rest : List ℕ) (k : ℕ)
      → let c = on (templates_of more n t ++ rest) k in
      (k' : ℕ) × (entries N M stood more c ≡ record { value = tabulate more t; next = on rest k' }) × (names N M stood more c ≡ tabulate more n)
  unfolding flatten tabulate
  entries_read zero n t stood h fresh d rest k = (k, entries_none N M stood (on rest k), names_none N M stood (on rest k))
  entries_read (suc more) n t stood h fresh d rest k =
      let n' : ℕ → List ℕ = λ i. n (suc i) in
      let t' : ℕ → Template = λ i. t (suc i) in
      let first = print_template (n zero) (t zero) in
      let lines = templates_of more n' t' in
      let c = on (first ++ lines ++ rest) k in
      let x = (entry_back N M few less stood (n zero) (t zero) (h zero (omega arith)) (fresh zero (omega arith))).back (lines ++ rest) k in
      let y = entries_read more n' t' (n zero ∷ stood) (λ i l. h (suc i) (omega arith))
      (λ i l. fresh_still (n (suc i)) (n zero) stood (fresh (suc i) (omega arith)) (d zero (suc i) (omega arith) (omega arith)))
      (λ i j l g. d (suc i) (suc j) (omega arith) (omega arith)) rest x.0 in
      let seam = append_assoc first lines rest in
      (y.0, entries_step N M stood more c ∙ rw (seam, x.1, y.1), names_step N M stood more c ∙ rw (seam, x.1, y.2))

pub entries_only : (N M more : ℕ) (stood : List (List ℕ)) (tail : List Template) (c : Cursor)
    → Wrote c (templates_of more (λ X. get_or (names N M stood more c) X []) (λ X. get_or ((entries N M stood more c).value ++ tail) X blank)) (entries N M stood more c).next
unfolding entries names flatten tabulate
entries_only N M zero stood tail c = none_wrote c
entries_only N M (suc more) stood tail c =
    entry_only N M stood c ⨟ entries_only N M more ((entry N M stood c).value.name ∷ stood) tail (entry N M stood c).next

-- ---- the names of what reads

name_valid : (stood : List (List ℕ)) (s : List ℕ) → Each (λ n. is_name n ≡ true) (name stood s)
unfolding name
name_valid stood s =
    each_if _ (is_name s) _ (bad 2) (λ q. each_if _ (stands_in s stood) (bad 5) (is s) (λ p. each_bad _ 5) (λ p. each_is _ s q)) (λ q. each_bad _ 2)

entry_named : (N M : ℕ) (stood : List (List ℕ)) (c : Cursor) → Live (entry N M stood c).next → is_name (entry N M stood c).value.name ≡ true
unfolding entry
entry_named N M stood c live = (line_each (λ n. is_name n ≡ true) [] "name=" (name stood) (name_valid stood) c ((entry-passes N M stood).1 c live)).1

pub names_valid : (N M more : ℕ) (stood : List (List ℕ)) (c : Cursor) → Live (entries N M stood more c).next
    → (i : ℕ) → i < more → is_name (get_or (names N M stood more c) i []) ≡ true
unfolding entries names
names_valid N M zero stood c live = λ i l. absurd (omega arith)
names_valid N M (suc more) stood c live =
    let e = entry N M stood c in
    let stood' = e.value.name ∷ stood in
    row_cons (λ n. is_name n ≡ true) [] e.value.name (names N M stood' more e.next) more
    (entry_named N M stood c (passes_live _ _ (entries-passes N M more stood') e.next live))
    (names_valid N M more stood' e.next live)
