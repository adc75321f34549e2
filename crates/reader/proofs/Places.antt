-- Where the names of a plan's templates stand. They are found by the lines before them, of which each template has the same
-- number.
use Prim.Native.Nat.{ℕ, zero, suc, ◌+◌, ◌*◌, ◌<◌}
use mathlib.Core.Path.{◌≡◌, refl, sym, ap, ◌∙◌, subst}
use mathlib.Core.Bool.{true, ◌&&◌}
use mathlib.Core.List.{List, [], ◌∷◌}
use native.Mathlib.Omega.{arith}
use lib.Dec.{leb, ltb}
use lib.ListN.{length, get_or}
use Rattle.lists.specs.Numbers.{all}
use Rattle.plan.specs.declared.Plan.{Plan}
use Rattle.scan.specs.Bytes.{bytes, starts_with, stands_in}
use Rattle.field.specs.Fields.{is, bad, number, name_byte, name}
use Rattle.field.proofs.Each.{Each, each_is, each_bad, each_if}
use Rattle.text.specs.Reading.{Cursor, on, line, template_lines, entry, entries, plan_header, plan, no_plan, read_plan, Complete}
use Rattle.text.proofs.Passed.{Live, after_lines, first_line, field_after, line_read, more_lines, passes_live, entry-passes, entries-passes, plan-header}
use Rattle.reader.specs.Names.{names, plan_names}
use Rattle.reader.proofs.Live.{complete_holds}

-- A name is its whole field.
name_whole : (stood : List (List ℕ)) (s : List ℕ) → Each (λ n. n ≡ s) (name stood s)
unfolding name
name_whole stood s =
    each_if _ (ltb 0 (length s) && (leb (length s) 16 && all name_byte s)) _ _
    (λ q. each_if _ (stands_in s stood) (bad 5) (is s) (λ p. each_bad _ 5) (λ p. each_is _ s refl))
    (λ q. each_bad _ 2)

-- The first line of the text begins with `name=`, and what follows is that name.
abbrev pub NameHere : List ℕ → List ℕ → Type 0
NameHere text n = (starts_with (bytes "name=") (first_line text) ≡ true) × (n ≡ field_after "name=" text)

module _ (N M : ℕ) where
  -- Every name stands on the first line of its template.
  abbrev NamesStand : ℕ → List (List ℕ) → List ℕ → ℕ → Type 0
  NamesStand more stood text k = Live (entries N M stood more (on text k)).next
      → (X : ℕ) → X < more → NameHere (after_lines (template_lines * X) text) (get_or (names N M stood more (on text k)) X [])

  next_name : (more : ℕ) (stood : List (List ℕ)) (text : List ℕ) (k : ℕ)
      → ((n : List ℕ) → NamesStand more (n ∷ stood) (after_lines template_lines text) (k + template_lines)) → NamesStand (suc more) stood text k
  unfolding entry entries names after_lines
  next_name more stood text k later live = go
    where
      n : List ℕ
      n = (entry N M stood (on text k)).value.name

      c : Cursor
      c = (entry N M stood (on text k)).next

      c_live : Live c
      c_live = passes_live _ _ (entries-passes N M more (n ∷ stood)) c live

      c_stands : c ≡ on (after_lines template_lines text) (k + template_lines)
      c_stands = (entry-passes N M stood).0.lands text k c_live

      go : (X : ℕ) → X < suc more → NameHere (after_lines (template_lines * X) text) (get_or (n ∷ names N M (n ∷ stood) more c) X [])
      go zero g =
          let r = line_read [] "name=" (name stood) text k ((entry-passes N M stood).1 (on text k) c_live) in
          (r.1, name_whole stood (field_after "name=" text) n r.2)
      go (suc Y) g =
          let sum : template_lines + template_lines * Y ≡ template_lines * suc Y = omega arith in
          let there = more_lines template_lines (template_lines * Y) text ∙ ap (λ (j : ℕ). after_lines j text) sum in
          subst (λ (t : List ℕ). NameHere t (get_or (names N M (n ∷ stood) more c) Y [])) there
          (subst (λ (d : Cursor). NameHere (after_lines (template_lines * Y) (after_lines template_lines text)) (get_or (names N M (n ∷ stood) more d) Y [])) (sym c_stands)
          (later n (subst (λ (d : Cursor). Live (entries N M (n ∷ stood) more d).next) c_stands live) Y (omega arith)))

  names_stand : (more : ℕ) (stood : List (List ℕ)) (text : List ℕ) (k : ℕ) → NamesStand more stood text k
  names_stand zero stood text k = λ live X h. absurd (omega arith)
  names_stand (suc more) stood text k = next_name more stood text k (λ n. names_stand more (n ∷ stood) (after_lines template_lines text) (k + template_lines))

-- The name of template X of a plan that reading gives as complete stands on the first of its lines, after `name=`.
pub name-stands : (text : List ℕ) → (read_plan text).answer ≡ Complete
    → (X : ℕ) → X < (read_plan text).plan.count → NameHere (after_lines (plan_header + template_lines * X) text) (get_or (plan_names text) X [])
unfolding read_plan plan plan_names
name-stands text =
    complete_holds (λ (p : Plan). (X : ℕ) → X < p.count → NameHere (after_lines (plan_header + template_lines * X) text) (get_or (plan_names text) X []))
    text (plan (on text 1)).next (plan (on text 1)).value no_plan read
  where
    N : ℕ
    N = (line 0 "templates=" (number 3 1 65) (on text 1)).value

    c : Cursor
    c = (line 0 "templates=" (number 3 1 65) (on text 1)).next

    M : ℕ
    M = (line 0 "identifiers=" (number 3 0 33) c).value

    d : Cursor
    d = (line 0 "identifiers=" (number 3 0 33) c).next

    read : Live (plan (on text 1)).next → (X : ℕ) → X < N → NameHere (after_lines (plan_header + template_lines * X) text) (get_or (plan_names text) X [])
    read live X h =
        let start = plan-header text (passes_live _ _ (entries-passes N M N []) d live) in
        subst (λ (t : List ℕ). NameHere t (get_or (plan_names text) X [])) (more_lines plan_header (template_lines * X) text)
        (subst (λ (e : Cursor). NameHere (after_lines (template_lines * X) (after_lines plan_header text)) (get_or (names N M [] N e) X [])) (sym start)
        (names_stand N M N [] (after_lines plan_header text) (1 + plan_header) (subst (λ (e : Cursor). Live (entries N M [] N e).next) start live) X h))
