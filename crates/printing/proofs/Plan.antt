-- The plan: what is written reads back, with its names, and only what is written reads.
use Prim.Native.Nat.{ℕ, ◌-◌, ◌≤◌, ◌<◌}
use mathlib.Core.Path.{◌≡◌, refl, sym, ap, ap₂, ◌∙◌}
use mathlib.Core.List.{List, [], ◌++◌, append_assoc, append-nil}
use mathlib.Core.Bool.{true, false}
use native.Mathlib.Omega.{arith}
use lib.ListN.{length, get_or, replicate}
use Rattle.lists.specs.Numbers.{tabulate}
use Rattle.lists.proofs.Tabulate.{tabulate_get_or}
use Rattle.numerals.specs.Numerals.{decimal_of}
use Rattle.plan.specs.declared.Plan.{Plan}
use Rattle.plan.specs.Plan.{blank, at}
use Rattle.scan.specs.Bytes.{stands_in}
use Rattle.field.specs.Fields.{number}
use Rattle.field.specs.Answers.{is_name}
use Rattle.text.specs.Reading.{longest, on, line, entries, plan, no_plan, if_complete, read_plan, Complete}
use Rattle.text.proofs.Passed.{Live}
use Rattle.reader.specs.Names.{names, plan_names}
use Rattle.reader.proofs.{Live.{complete_holds}, Range.{plan_in_range}, Names.{names_new, names_distinct}}
use Rattle.printing.specs.Format.{PlanFormat}
use Rattle.printing.specs.Printing.{print_template, print_plan}
use Rattle.printing.specs.Printable.{Printable}
use Rattle.printing.proofs.Fields.{number_law, Fresh}
use Rattle.printing.proofs.Names.{name_back, name_only}
use Rattle.printing.proofs.Lines.{◌⨟◌, ◌⊕◌, each_short, Line, line_back, line_only}
use Rattle.printing.proofs.Texts.{ended, complete_only, row_whole}
use Rattle.printing.proofs.Templates.{entry_back, templates_of, entries_read, entries_only, names_valid}

-- ---- the text

unstood : (n : List ℕ) → stands_in n [] ≡ false
unfolding stands_in
unstood n = refl

module _ (p : Plan) (ns : List (List ℕ)) (h : Printable p ns) where
  few : p.count ≤ 64
  few = h.range.templates

  less : p.identifiers ≤ 32
  less = h.range.identifiers

  templates_line : Line "templates=" (number 3 1 65) (decimal_of p.count) p.count 15
  templates_line = line_back (number_law 3 1 65) "templates=" refl p.count (h.range.rooted, omega (arith, few), omega (arith, few))

  identifiers_line : Line "identifiers=" (number 3 0 33) (decimal_of p.identifiers) p.identifiers 17
  identifiers_line = line_back (number_law 3 0 33) "identifiers=" refl p.identifiers (omega arith, omega (arith, less), omega (arith, less))

  fresh : (X : ℕ) → X < p.count → Fresh [] (get_or ns X [])
  fresh X l = (name_back (get_or ns X []) (h.valid X l), unstood (get_or ns X []))

  rows : (k : ℕ) → let c = on (templates_of p.count (λ X. get_or ns X []) (at p) ++ []) k in
      (k' : ℕ) × (entries p.count p.identifiers [] p.count c ≡ record { value = tabulate p.count (at p); next = on [] k' })
      × (names p.count p.identifiers [] p.count c ≡ tabulate p.count (λ X. get_or ns X []))
  rows =
      entries_read p.count p.identifiers few less p.count (λ X. get_or ns X []) (at p) [] h.range.each fresh h.distinct []

  row : tabulate p.count (at p) ++ replicate (64 - p.count) blank ≡ p.templates
  unfolding at
  row = row_whole blank p.templates p.count 64 h.range.places few h.range.unused

  plan_short : length (print_plan p ns) ≤ longest
  unfolding print_plan
  plan_short =
      let rows_short = each_short p.count 107 (λ X. print_template (get_or ns X []) (at p X))
      (λ X l. (entry_back p.count p.identifiers few less [] (get_or ns X []) (at p X) (h.range.each X l) (fresh X l)).short) in
      omega (arith, (templates_line.short ⊕ identifiers_line.short ⊕ rows_short).bound, few)

  plan_read : (k : ℕ) × (plan (on (print_plan p ns ++ []) 1) ≡ record { value = p; next = on [] k })
  unfolding plan print_plan
  plan_read = let x = rows 3 in (x.0, simp append_assoc (rw (templates_line.back, identifiers_line.back, x.1, row)))

  -- What is written reads back: complete, and the very plan,
  plan_back : read_plan (print_plan p ns) ≡ record { answer = Complete; plan = p }
  unfolding read_plan if_complete
  plan_back =
      let x = plan_read in
      let e = ap (λ (text : List ℕ). plan (on text 1)) (sym (append-nil (print_plan p ns))) ∙ x.1 in
      rw (e, ended (print_plan p ns) x.0 plan_short)

  -- with the very names.
  names_read : plan_names (print_plan p ns ++ []) ≡ ns
  unfolding plan_names print_plan
  names_read =
      let x = rows 3 in
      simp append_assoc (rw (templates_line.back, identifiers_line.back, x.2) (tabulate_get_or p.count ns [] h.one_each))

  names_back : plan_names (print_plan p ns) ≡ ns
  names_back = ap plan_names (sym (append-nil (print_plan p ns))) ∙ names_read

-- Only what is written reads.
plan_only : (text : List ℕ) → (read_plan text).answer ≡ Complete → text ≡ print_plan (read_plan text).plan (plan_names text)
unfolding read_plan plan plan_names print_plan at
plan_only text =
    let n = line 0 "templates=" (number 3 1 65) (on text 1) in
    let m = line 0 "identifiers=" (number 3 0 33) n.next in
    complete_only (λ (p : Plan). print_plan p (plan_names text)) text (plan (on text 1)).next (plan (on text 1)).value no_plan
    (line_only (number_law 3 1 65) "templates=" 0 (on text 1)
    ⨟ line_only (number_law 3 0 33) "identifiers=" 0 n.next
    ⨟ entries_only n.value m.value n.value [] (replicate (64 - n.value) blank) m.next)

-- ---- the names of what reads

-- A name for each template, and each of them valid.
abbrev Named : List (List ℕ) → Plan → Type 0
Named ns p = (length ns ≡ p.count) × ((X : ℕ) → X < p.count → is_name (get_or ns X []) ≡ true)

plan_named : (text : List ℕ) → Live (plan (on text 1)).next → Named (plan_names text) (plan (on text 1)).value
unfolding plan plan_names
plan_named text live =
    let n = line 0 "templates=" (number 3 1 65) (on text 1) in
    let m = line 0 "identifiers=" (number 3 0 33) n.next in
    let N = n.value in
    let M = m.value in
    ((names_new N M N [] m.next live).0, names_valid N M N [] m.next live)

plan_printable : (text : List ℕ) → (read_plan text).answer ≡ Complete → Printable (read_plan text).plan (plan_names text)
unfolding read_plan
plan_printable text e =
    let named = complete_holds (Named (plan_names text)) text (plan (on text 1)).next (plan (on text 1)).value no_plan (plan_named text) e in
    record {
      range = plan_in_range text e;
      one_each = named.0;
      valid = λ X l. name_only (get_or (plan_names text) X []) (named.1 X l);
      distinct = λ X Y l h. names_distinct text e X Y l (omega (arith, named.0));
    }

-- Writing and reading plans are inverse to one another.
pub plan_format : PlanFormat
plan_format = record { back = λ p ns h. (plan_back p ns h, names_back p ns h); only = λ text e. (plan_printable text e, plan_only text e) }

-- So there is one text for a plan with its names.
pub one_text : (t u : List ℕ) → (read_plan t).answer ≡ Complete → (read_plan u).answer ≡ Complete → (read_plan t).plan ≡ (read_plan u).plan
    → plan_names t ≡ plan_names u → t ≡ u
one_text t u e f p n = plan_only t e ∙ ap₂ print_plan p n ∙ sym (plan_only u f)
