-- The names of a plan's templates differ: each is none of those that stood before it (document 01, number 5).
use Prim.Native.Nat.{ℕ, zero, suc, ◌<◌}
use mathlib.Core.Path.{◌≡◌, refl, sym, ap, ◌∙◌}
use mathlib.Core.Bool.{true, false, true≢false}
use mathlib.Core.List.{List, [], ◌∷◌}
use native.Mathlib.Omega.{arith}
use lib.ListN.{length, get_or}
use borrow.Author.Tests.{eq-eqb}
use Rattle.lists.proofs.Tests.{or_none}
use Rattle.scan.specs.Bytes.{same, stands_in}
use Rattle.field.specs.Fields.{number}
use Rattle.text.specs.Reading.{Cursor, on, line, entry, entries, plan, read_plan, Complete}
use Rattle.reader.specs.Names.{names, plan_names, Distinct}
use Rattle.reader.proofs.Rows.{row_cons}
use Rattle.text.proofs.Passed.{Live}
use Rattle.reader.proofs.Live.{checked_live}
use Rattle.reader.proofs.Range.{entry_fine, entries_fine}

same_self : (s : List ℕ) → same s s ≡ true
unfolding same
same_self [] = refl
same_self (x ∷ s) = rw (eq-eqb x x refl) (same_self s)

-- A name that is none of those that stood: not the last, and none of those before it.
none_stood : (m n : List ℕ) (stood : List (List ℕ)) → stands_in m (n ∷ stood) ≡ false → (same m n ≡ false) × (stands_in m stood ≡ false)
unfolding stands_in
none_stood m n stood = or_none (same m n) (stands_in m stood)

distinct_cons : (n : List ℕ) (l stood : List (List ℕ)) (more : ℕ) → length l ≡ more
    → ((j : ℕ) → j < more → stands_in (get_or l j []) (n ∷ stood) ≡ false) → Distinct l → Distinct (n ∷ l)
distinct_cons n l stood more len h d zero zero g k = absurd (omega arith)
distinct_cons n l stood more len h d zero (suc j) g k =
    λ e. true≢false (sym (same_self n) ∙ ap (λ (s : List ℕ). same s n) e ∙ (none_stood (get_or l j []) n stood (h j (omega arith))).0)
distinct_cons n l stood more len h d (suc i) zero g k = absurd (omega arith)
distinct_cons n l stood more len h d (suc i) (suc j) g k = d i j (omega arith) (omega arith)

-- Names that come later are none of those that stood, and differ.
pub names_new : (N M : ℕ) (more : ℕ) (stood : List (List ℕ)) (c : Cursor) → Live (entries N M stood more c).next
    → (length (names N M stood more c) ≡ more) × ((j : ℕ) → j < more → stands_in (get_or (names N M stood more c) j []) stood ≡ false) × Distinct (names N M stood more c)
unfolding entries names
names_new N M zero stood c live = (refl, λ j h. absurd (omega arith), λ i j h g. absurd (omega arith))
names_new N M (suc more) stood c live =
    let e = entry N M stood c in
    let rest = entries_fine N M more (e.value.name ∷ stood) e.next live in
    let first = entry_fine N M stood c rest.0 in
    let rows = names N M (e.value.name ∷ stood) more e.next in
    let later = names_new N M more (e.value.name ∷ stood) e.next live in (
      ap suc later.0,
      row_cons (λ n. stands_in n stood ≡ false) [] e.value.name rows more first.2
          (λ j h. (none_stood (get_or rows j []) e.value.name stood (later.1 j h)).1),
      distinct_cons e.value.name rows stood more later.0 later.1 later.2,
    )

-- The names of a plan that reading gives as complete differ.
pub names_distinct : (text : List ℕ) → (read_plan text).answer ≡ Complete → Distinct (plan_names text)
unfolding read_plan plan plan_names
names_distinct text e =
    let n = line 0 "templates=" (number 3 1 65) (on text 1) in
    let m = line 0 "identifiers=" (number 3 0 33) n.next in
    (names_new n.value m.value n.value [] m.next (checked_live text (plan (on text 1)).next e)).2
