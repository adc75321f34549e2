-- The plan that was read is in range: each template fits, and the places after them are blank.
use Prim.Native.Nat.{ℕ, zero, suc, ◌+◌, ◌-◌, ◌^◌, ◌<◌}
use Prim.Native.String.{String}
use mathlib.Core.Path.{◌≡◌, refl, sym, ap, subst}
use mathlib.Core.Bool.{true, false, ◌&&◌}
use mathlib.Core.List.{List, [], ◌∷◌}
use native.Mathlib.Omega.{arith}
use lib.Dec.{leb, ltb}
use lib.ListN.{length, get_or, take, drop, replicate, get_or-append}
use borrow.Author.Tests.{lt-ltb, ltb-true}
use Rattle.lists.specs.Numbers.{all}
use Rattle.lists.proofs.Tests.{and_both, and_of}
use Rattle.plan.specs.declared.Form.{Form, TheVariants.{End, Go, Either, Both}}
use Rattle.plan.specs.declared.Template.{Template}
use Rattle.plan.specs.Plan.{blank, at, successors, masks, template_fits}
use Rattle.plan.specs.Range.{InRange}
use Rattle.scan.specs.Bytes.{bytes, before, starts_with, same, stands_in}
use Rattle.field.specs.Fields.{is, bad, decimal, number, template_number, mask, name_byte, name, pair, form, risk}
use Rattle.field.proofs.Each.{Each, each_is, each_bad, each_if, each_then, number_range, mask_read}
use Rattle.text.specs.Reading.{Cursor, on, Step, line, Entry, entry, entries, plan, no_plan, read_plan, Complete}
use Rattle.reader.proofs.Masks.{mask_keys, mask_lines, entry_lines, entry_same}
use Rattle.reader.proofs.Rows.{row_full, row_past, row_cons}
use Rattle.text.proofs.Passed.{Live}
use Rattle.reader.proofs.Live.{line_from, line_each, count_line, complete_holds}

-- ---- a form's field

-- Each successor of a form is below N.
abbrev Onward : ℕ → Form → Type 0
Onward N f = all (λ Y. ltb Y N) (successors f) ≡ true

one_below : (N Y : ℕ) → Y < N → all (λ Y. ltb Y N) (Y ∷ []) ≡ true
unfolding all
one_below N Y h = and_of _ _ (lt-ltb Y N h) refl

two_below : (N Y Z : ℕ) → Y < N → Z < N → all (λ Y. ltb Y N) (Y ∷ Z ∷ []) ≡ true
unfolding all
two_below N Y Z h g = and_of _ _ (lt-ltb Y N h) (one_below N Z g)

pair_range : (N : ℕ) (f : ℕ → ℕ → Form) (s : List ℕ) → ((Y Z : ℕ) → Y < N → Z < N → Onward N (f Y Z)) → Each (Onward N) (pair N f s)
unfolding pair
pair_range N f s h =
    each_then (Onward N) (decimal (take (before 44 s) s)) _ (λ Y e.
    each_then (Onward N) (decimal (drop (before 44 s + 1) s)) _ (λ Z g.
    each_if (Onward N) (ltb Y N && ltb Z N) (is (f Y Z)) (bad 3)
    (λ q. let both = and_both (ltb Y N) (ltb Z N) q in each_is (Onward N) (f Y Z) (h Y Z (ltb-true Y N both.0) (ltb-true Z N both.1)))
    (λ q. each_bad (Onward N) 3)))

form_range : (N : ℕ) (s : List ℕ) → Each (Onward N) (form N s)
unfolding form successors template_number all
form_range N s =
    each_if (Onward N) (same s (bytes "end")) _ _ (λ q. each_is (Onward N) End refl) (λ q.
    each_if (Onward N) (starts_with (bytes "go:") s) _ _
    (λ q. each_then (Onward N) (template_number N (drop 3 s)) _ (λ Y e. each_is (Onward N) (Go Y) (one_below N Y (number_range 3 0 N (drop 3 s) Y e).1))) (λ q.
    each_if (Onward N) (starts_with (bytes "either:") s) _ _ (λ q. pair_range N (λ Y Z. Either Y Z) (drop 7 s) (two_below N)) (λ q.
    each_if (Onward N) (starts_with (bytes "both:") s) _ _ (λ q. pair_range N (λ Y Z. Both Y Z) (drop 5 s) (two_below N)) (λ q. each_bad (Onward N) 2))))

-- ---- the lines of a template

name_new : (stood : List (List ℕ)) (s : List ℕ) → Each (λ n. stands_in n stood ≡ false) (name stood s)
unfolding name
name_new stood s =
    each_if _ (ltb 0 (length s) && (leb (length s) 16 && all name_byte s)) _ _
    (λ q. each_if _ (stands_in s stood) (bad 5) (is s) (λ p. each_bad _ 5) (λ p. each_is _ s p))
    (λ q. each_bad _ 2)

-- However many mask lines a template has, each of its masks is below 2 ^ M.
masks-below : (M : ℕ) (keys : List String) (c : Cursor) → Live (mask_lines M keys c).next
    → Live c × (all (λ mask. ltb mask (2 ^ M)) (mask_lines M keys c).value ≡ true)
unfolding mask_lines all
masks-below M [] c live = (live, refl)
masks-below M (key ∷ keys) c live =
    let l = line 0 key (mask 8 M) c in
    let rest = masks-below M keys l.next live in
    let first = line_each (λ m. m < 2 ^ M) 0 key (mask 8 M) (λ s m e. (mask_read 8 M s m e).2) c rest.0 in
    (first.0, and_of _ _ (lt-ltb l.value (2 ^ M) first.1) rest.1)

abbrev Fits : ℕ → ℕ → Template → Type 0
Fits N M t = template_fits N M t ≡ true

lines_fine : (N M : ℕ) (stood : List (List ℕ)) (c : Cursor) → Live (entry_lines N M stood c).next
    → Live c × Fits N M (entry_lines N M stood c).value.template × (stands_in (entry_lines N M stood c).value.name stood ≡ false)
unfolding entry_lines template_fits masks mask_lines
lines_fine N M stood c live =
    let c₁ = (line [] "name=" (name stood) c).next in
    let c₂ = (line End "form=" (form N) c₁).next in
    let c₃ = (mask_lines M mask_keys c₂).next in
    let risk-line = line_from false "risk=" risk c₃ live in
    let mask-lines = masks-below M mask_keys c₂ risk-line.0 in
    let form-line = line_each (Onward N) End "form=" (form N) (form_range N) c₁ mask-lines.0 in
    let name-line = line_each (λ n. stands_in n stood ≡ false) [] "name=" (name stood) (name_new stood) c form-line.0 in
    (name-line.0, and_of _ _ form-line.1 mask-lines.1, name-line.1)

pub entry_fine : (N M : ℕ) (stood : List (List ℕ)) (c : Cursor) → Live (entry N M stood c).next
    → Live c × (template_fits N M (entry N M stood c).value.template ≡ true) × (stands_in (entry N M stood c).value.name stood ≡ false)
entry_fine N M stood c =
    subst (λ (e : Step Entry). Live e.next → Live c × Fits N M e.value.template × (stands_in e.value.name stood ≡ false))
    (entry_same N M stood c) (lines_fine N M stood c)

-- ---- the plan

pub entries_fine : (N M : ℕ) (more : ℕ) (stood : List (List ℕ)) (c : Cursor) → Live (entries N M stood more c).next
    → Live c × (length (entries N M stood more c).value ≡ more) × ((i : ℕ) → i < more → template_fits N M (get_or (entries N M stood more c).value i blank) ≡ true)
unfolding entries
entries_fine N M zero stood c live = (live, refl, λ i h. absurd (omega arith))
entries_fine N M (suc more) stood c live =
    let e = entry N M stood c in
    let rest = entries_fine N M more (e.value.name ∷ stood) e.next live in
    let first = entry_fine N M stood c rest.0 in
    (first.0, ap suc rest.1, row_cons (Fits N M) blank e.value.template (entries N M (e.value.name ∷ stood) more e.next).value more first.1 rest.2)

plan_range : (text : List ℕ) → Live (plan (on text 1)).next → InRange (plan (on text 1)).value
unfolding plan at
plan_range text live =
    let n = line 0 "templates=" (number 3 1 65) (on text 1) in
    let m = line 0 "identifiers=" (number 3 0 33) n.next in
    let N = n.value in
    let M = m.value in
    let ts = entries_fine N M N [] m.next live in
    let identifiers = count_line 0 33 "identifiers=" n.next ts.0 in
    let templates = count_line 1 65 "templates=" (on text 1) identifiers.0 in
    let row = (entries N M [] N m.next).value in
    record {
      rooted = templates.1.0;
      templates = omega (arith, templates.1.1);
      identifiers = omega (arith, identifiers.1.1);
      places = row_full row N 64 blank ts.1 (omega (arith, templates.1.1));
      each = λ X h. subst (Fits N M) (sym (get_or-append row (replicate (64 - N) blank) blank X (omega (arith, ts.1)))) (ts.2 X h);
      unused = λ X h. row_past row (64 - N) X blank (omega (arith, ts.1));
    }

-- A plan that reading gives as complete is in range.
pub plan_in_range : (text : List ℕ) → (read_plan text).answer ≡ Complete → InRange (read_plan text).plan
unfolding read_plan
plan_in_range text = complete_holds InRange text (plan (on text 1)).next (plan (on text 1)).value no_plan (plan_range text)
