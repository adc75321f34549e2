-- Readers on a text that is cut before one of its lines: what was read before the cut is read again, and where
-- reading stopped on the line that is cut off, it stops there still, for that line is missing.
use Prim.Native.Nat.{ℕ, zero, suc, ◌+◌, ◌≤◌}
use Prim.Native.String.{String}
use mathlib.Core.Path.{◌≡◌, refl, sym, ap, ◌∙◌, subst}
use mathlib.Core.Logic.{◌⊎◌, inl, inr}
use mathlib.Core.Bool.{Bool, true, false, cond}
use mathlib.Core.List.{List, [], ◌∷◌, ◌++◌, append_assoc}
use native.Mathlib.Nat.{zero-add, suc-add}
use native.Mathlib.Omega.{arith}
use lib.Dec.{eqb, ltb}
use lib.ListN.{length, drop, length-append}
use lib.Seq.{take-append_seam, drop-append-add}
use borrow.Author.Tests.{eqb-true, lt-ltb, le-ltb}
use Rattle.scan.specs.Bytes.{bytes, before, starts_with}
use Rattle.field.specs.Fields.{Field, is, bad, and_then}
use Rattle.text.specs.Reading.{Cursor, on, stopped, Step, Reader, ◌>>=◌, give, after_key, settle, line}
use Rattle.text.specs.Cursors.{settled}
use Rattle.text.proofs.Passed.{after_lines, more_lines}
use Rattle.rules.specs.Faults.{Lines, no_line, one_line}

-- The text from line k on is the lines before line j, and the rest, which begins with line j.
pub record Passed (text : List ℕ) (k : ℕ) (rest : List ℕ) (j : ℕ) : Type 0 where
  pub cut : List ℕ
  pub count : ℕ
  pub whole : text ≡ cut ++ rest
  pub after : rest ≡ after_lines count text
  pub number : j ≡ k + count
  pub lines : Lines count cut

none_passed : (text : List ℕ) (k : ℕ) → Passed text k text k
unfolding after_lines
none_passed text k = record { cut = []; count = 0; whole = refl; after = refl; number = omega arith; lines = no_line }

module _ (m : ℕ) (t : List ℕ) (later : Lines m t) where
  all_lines : {n : ℕ} {s : List ℕ} → Lines n s → Lines (n + m) (s ++ t)
  all_lines no_line = subst (λ (k : ℕ). Lines k t) (sym (zero-add m)) later
  all_lines (one_line {n} {rest} first plain more) =
      subst (Lines (suc n + m)) (sym (append_assoc first (10 ∷ rest) t))
      (subst (λ (k : ℕ). Lines k (first ++ (10 ∷ (rest ++ t)))) (sym (suc-add n m)) (one_line first plain (all_lines more)))

both_passed : {text rest end : List ℕ} {k j i : ℕ} → Passed text k rest j → Passed rest j end i → Passed text k end i
both_passed {text} {rest} {end} p q = record {
  cut = p.cut ++ q.cut;
  count = p.count + q.count;
  whole = p.whole ∙ ap (λ (t : List ℕ). p.cut ++ t) q.whole ∙ sym (append_assoc p.cut q.cut end);
  after = q.after ∙ ap (after_lines q.count) p.after ∙ more_lines p.count q.count text;
  number = omega (arith, p.number, q.number);
  lines = all_lines q.count q.cut q.lines p.lines;
}

-- A reader that began on the text, by where it then stands. Where it went on it gives the same whatever follows the lines that it
-- passed; where it stopped it stops on that line also on a text that ends before it, with 2.
abbrev pub Met : {A : Type 0} → Reader A → List ℕ → ℕ → Cursor → Type 0
Met r text k (on rest j) = (p : Passed text k rest j) × ((more : List ℕ) → r (on (p.cut ++ more) k) ≡ record { value = (r (on text k)).value; next = on more j })
Met r text k (stopped m j) = (rest : List ℕ) × (p : Passed text k rest j) × ((r (on p.cut k)).next ≡ stopped 2 j)

pub record Follows {A : Type 0} (r : Reader A) : Type 0 where
  pub stays : (m k : ℕ) → (r (stopped m k)).next ≡ stopped m k
  pub meets : (text : List ℕ) (k : ℕ) → Met r text k (r (on text k)).next

-- ---- one after the other

pub follows_none : {A : Type 0} (v : A) → Follows (give v)
unfolding none_passed
follows_none v = record { stays = λ m k. refl; meets = λ text k. (none_passed text k, λ more. refl) }

pub follows_then : {A B : Type 0} (r : Reader A) (next : A → Reader B) → Follows r → ((v : A) → Follows (next v)) → Follows (◌>>=◌ r next)
unfolding both_passed
follows_then {A} {B} r next first later = record {
  stays = λ m k. stays (r (stopped m k)) (first.stays m k);
  meets = λ text k. onward text k (r (on text k)).next refl (first.meets text k);
}
  where
    stays : (s : Step A) {m k : ℕ} → s.next ≡ stopped m k → (next s.value s.next).next ≡ stopped m k
    stays s {m} {k} e = ap (λ (d : Cursor). (next s.value d).next) e ∙ (later s.value).stays m k

    joined : (text : List ℕ) (k : ℕ) (rest : List ℕ) (j : ℕ) → (r (on text k)).next ≡ on rest j → Met r text k (on rest j)
        → (c : Cursor) → Met (next (r (on text k)).value) rest j c → Met (◌>>=◌ r next) text k c
    joined text k rest j e (p, same) (on end i) (q, again) = (
      both_passed p q,
      λ more. ap (λ (t : List ℕ). ◌>>=◌ r next (on t k)) (append_assoc p.cut q.cut more)
          ∙ ap (λ (s : Step A). next s.value s.next) (same (q.cut ++ more)) ∙ again more
          ∙ ap (λ (d : Cursor). record { value = (next (r (on text k)).value d).value; next = on more i }) (sym e),
    )
    joined text k rest j e (p, same) (stopped m i) (end, q, again) =
        (end, both_passed p q, ap (λ (s : Step A). (next s.value s.next).next) (same q.cut) ∙ again)

    onward : (text : List ℕ) (k : ℕ) (c : Cursor) → (r (on text k)).next ≡ c → Met r text k c → Met (◌>>=◌ r next) text k (next (r (on text k)).value c).next
    onward text k (on rest j) e met =
        joined text k rest j e met (next (r (on text k)).value (on rest j)).next ((later (r (on text k)).value).meets rest j)
    onward text k (stopped m j) e (rest, p, again) =
        subst (Met (◌>>=◌ r next) text k) (sym ((later (r (on text k)).value).stays m j)) (rest, p, stays (r (on p.cut k)) again)

-- ---- one line

-- The text begins with a whole line, and what follows the line's byte 10 does not matter to where it stands.
record Ended (text : List ℕ) : Type 0 where
  first : List ℕ
  rest : List ℕ
  whole : text ≡ first ++ (10 ∷ rest)
  plain : before 10 first ≡ length first
  place : (more : List ℕ) → before 10 (first ++ (10 ∷ more)) ≡ length first

ends? : (text : List ℕ) → Ended text ⊎ (length text ≤ before 10 text)
unfolding before
ends? [] = inr (omega arith)
ends? (x ∷ s) = go (eqb x 10) refl (ends? s)
  where
    go : (b : Bool) → eqb x 10 ≡ b → Ended s ⊎ (length s ≤ before 10 s) → Ended (x ∷ s) ⊎ (length (x ∷ s) ≤ cond b zero (suc (before 10 s)))
    go true e o = inl (record { first = []; rest = s; whole = ap (λ (y : ℕ). y ∷ s) (eqb-true x 10 e); plain = refl; place = λ more. refl })
    go false e (inl d) = inl (record {
      first = x ∷ d.first;
      rest = d.rest;
      whole = ap (λ (t : List ℕ). x ∷ t) d.whole;
      plain = rw (e, before) (ap suc d.plain);
      place = λ more. rw (e, before) (ap suc (d.place more));
    })
    go false e (inr h) = inr (omega arith)

module _ {A : Type 0} (empty : A) (key : String) (read : List ℕ → Field A) where
  -- What the reader makes of a line without its byte 10.
  field_of : List ℕ → Field A
  field_of l = and_then (cond (starts_with (bytes key) l) (is (drop (length (bytes key)) l)) (bad 2)) read

  settled_here : (text : List ℕ) (k : ℕ) (x : Field A) → settle empty text k x ≡ settled empty (drop (before 10 text + 1) text) k x
  unfolding settle settled
  settled_here text k (is v) = refl
  settled_here text k (bad n) = refl

  ended_line : (first more : List ℕ) (k : ℕ) → before 10 (first ++ (10 ∷ more)) ≡ length first
      → line empty key read (on (first ++ (10 ∷ more)) k) ≡ settled empty more k (field_of first)
  unfolding line after_key field_of
  ended_line first more k e =
      let text = first ++ (10 ∷ more) in
      let inside : ltb (length first) (length text) ≡ true = lt-ltb (length first) (length text) (omega (arith, length-append first (10 ∷ more))) in
      settled_here text k _ ∙ rw (e, inside, take-append_seam first (10 ∷ more), drop-append-add first (10 ∷ more) 1)

  missing_line : (text : List ℕ) (k : ℕ) → length text ≤ before 10 text → line empty key read (on text k) ≡ record { value = empty; next = stopped 2 k }
  unfolding line after_key settle and_then
  missing_line text k h = rw (le-ltb (before 10 text) (length text) h, line, after_key)

  abbrev L : Reader A
  L = line empty key read

  module _ (text : List ℕ) (k : ℕ) where
    by : (s : Step A) → L (on text k) ≡ s → Met L text k s.next → Met L text k (L (on text k)).next
    by s e = subst (λ (c : Cursor). Met L text k c) (sym (ap (λ (x : Step A). x.next) e))

    -- It stopped on the line where it began.
    at_once : (m : ℕ) → Met L text k (stopped m k)
    unfolding none_passed line after_key settle and_then before
    at_once m = (text, none_passed text k, refl)

    module _ (d : Ended text) where
      abbrev cut : List ℕ
      cut = d.first ++ (10 ∷ [])

      begun : (more : List ℕ) (f : Field A) → field_of d.first ≡ f → L (on (cut ++ more) k) ≡ settled empty more k f
      begun more f q =
          ap (λ (t : List ℕ). L (on t k)) (append_assoc d.first (10 ∷ []) more) ∙ ended_line d.first more k (d.place more)
          ∙ ap (settled empty more k) q

      whole : text ≡ cut ++ d.rest
      whole = d.whole ∙ sym (append_assoc d.first (10 ∷ []) d.rest)

      after_cut : d.rest ≡ after_lines 1 text
      unfolding after_lines
      after_cut =
          sym (ap (λ (t : List ℕ). drop (before 10 t + 1) t) d.whole ∙ ap (λ (n : ℕ). drop (n + 1) (d.first ++ (10 ∷ d.rest))) (d.place d.rest)
          ∙ drop-append-add d.first (10 ∷ d.rest) 1)

      by_field : (f : Field A) → field_of d.first ≡ f → Met L text k (L (on text k)).next
      unfolding settled
      by_field (is v) q =
          let here = ap (λ (t : List ℕ). L (on t k)) whole ∙ begun d.rest (is v) q in
          by _ here (
            record { cut = cut; count = 1; whole = whole; after = after_cut; number = refl; lines = one_line d.first d.plain no_line },
            λ more. begun more (is v) q ∙ ap (λ (s : Step A). record { value = s.value; next = on more (k + 1) }) (sym here),
          )
      by_field (bad m) q = by _ (ap (λ (t : List ℕ). L (on t k)) whole ∙ begun d.rest (bad m) q) (at_once m)

    -- The line, by whether it is whole and how its field is read.
    met_line : Ended text ⊎ (length text ≤ before 10 text) → Met L text k (L (on text k)).next
    met_line (inl d) = by_field d (field_of d.first) refl
    met_line (inr h) = by _ (missing_line text k h) (at_once 2)

  pub follows_line : Follows (line empty key read)
  unfolding line
  follows_line = record { stays = λ m k. refl; meets = λ text k. met_line text k (ends? text) }
