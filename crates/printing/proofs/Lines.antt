-- A line, written and read, by the law of its field: `line_back` for what is written, `line_only` for what is read; and how
-- such facts of one line join to those of many.
use Prim.Native.Nat.{ℕ, zero, suc, ◌+◌, ◌*◌, ◌≤◌, ◌<◌}
use Prim.Native.String.{String}
use mathlib.Core.Path.{◌≡◌, refl, sym, ap, ◌∙◌}
use mathlib.Core.List.{List, [], ◌∷◌, ◌++◌, append_assoc, flatten}
use mathlib.Core.Bool.{true, ◌&&◌}
use native.Mathlib.Nat.{suc-mul}
use native.Mathlib.Omega.{arith}
use lib.ListN.{length, take, drop, length-append}
use lib.Dec.{ltb}
use lib.Seq.{take-append_seam, drop-append_seam}
use borrow.Author.Tests.{ltb-true, lt-ltb}
use Rattle.lists.specs.Numbers.{tabulate}
use Rattle.lists.proofs.Tests.{and_both}
use Rattle.scan.specs.Bytes.{bytes, before, starts_with}
use Rattle.field.specs.Fields.{Field, is, bad, and_then}
use Rattle.field.proofs.Each.{Each, each_is, each_bad, each_if}
use Rattle.text.specs.Reading.{Cursor, on, stopped, after_key, settle, line}
use Rattle.text.proofs.Passed.{Live}
use Rattle.printing.specs.Printing.{line_of}
use Rattle.printing.proofs.Bytes.{free, free_app, before_app, cut_back, cut, starts_app, starts_cut}
use Rattle.printing.proofs.Fields.{Law}

-- ---- the field of a line

field_back : (key s rest : List ℕ) → free 10 (key ++ s) ≡ true → after_key key (key ++ s ++ (10 ∷ rest)) ≡ is s
unfolding after_key
field_back key s rest h =
    let l : length (key ++ s) < length (key ++ s ++ (10 ∷ rest)) = omega (arith, length-append (key ++ s) (10 ∷ rest)) in
    rw (before_app 10 (key ++ s) rest h, take-append_seam (key ++ s) (10 ∷ rest), lt-ltb _ _ l, starts_app key s, drop-append_seam key s)

field_only : (key text : List ℕ) → Each (λ s. text ≡ key ++ s ++ (10 ∷ drop (before 10 text + 1) text)) (after_key key text)
unfolding after_key
field_only key text =
    let n = before 10 text in
    each_if _ (ltb n (length text) && starts_with key (take n text)) (is (drop (length key) (take n text))) (bad 2)
    (λ q.
    let both = and_both (ltb n (length text)) (starts_with key (take n text)) q in
    each_is _ (drop (length key) (take n text)) (
    cut 10 text (ltb-true n (length text) both.0)
    ∙ ap (λ (t : List ℕ). t ++ (10 ∷ drop (n + 1) text)) (starts_cut key (take n text) both.1)))
    (λ q. each_bad _ 2)

-- A line before the rest of a text.
line_app : (key : String) (s rest : List ℕ) → line_of key s ++ rest ≡ bytes key ++ s ++ (10 ∷ rest)
unfolding line_of
line_app key s rest = append_assoc (bytes key ++ s) (10 ∷ []) rest

line-length : (key : String) (s : List ℕ) → length (line_of key s) ≡ length (bytes key) + (length s + 1)
unfolding line_of
line-length key s = omega (arith, length-append (bytes key ++ s) (10 ∷ []), length-append (bytes key) s)

-- ---- where reading stands

-- The text that is still to be read.
abbrev pub ahead : Cursor → List ℕ
ahead (on text k) = text
ahead (stopped n k) = []

-- Reading came from c to c', so the text at c is these lines and the text at c'.
pub record Wrote (c : Cursor) (lines : List ℕ) (c' : Cursor) : Type 0 where
  pub wrote : Live c' → Live c × (ahead c ≡ lines ++ ahead c')

pub none_wrote : (c : Cursor) → Wrote c [] c
none_wrote c = record { wrote = λ live. (live, refl) }

infixl 20 ◌⨟◌
pub ◌⨟◌ : {c c₁ c₂ : Cursor} {s t : List ℕ} → Wrote c s c₁ → Wrote c₁ t c₂ → Wrote c (s ++ t) c₂
◌⨟◌ {c₂ = c₂} {s = s} {t = t} a b =
    record {
      wrote = λ live.
          let y = b.wrote live in
          let x = a.wrote y.0 in
          (x.0, x.1 ∙ ap (λ (rest : List ℕ). s ++ rest) y.1 ∙ sym (append_assoc s t (ahead c₂)));
    }

-- The lines take at most so many bytes.
pub record Short (most : ℕ) (lines : List ℕ) : Type 0 where
  pub bound : length lines ≤ most

infixl 20 ◌⊕◌
pub ◌⊕◌ : {a b : ℕ} {s t : List ℕ} → Short a s → Short b t → Short (a + b) (s ++ t)
◌⊕◌ {s = s} {t = t} x y = record { bound = omega (arith, x.bound, y.bound, length-append s t) }

pub each_short : (n most : ℕ) (lines : ℕ → List ℕ) → ((i : ℕ) → i < n → Short most (lines i)) → Short (n * most) (flatten (tabulate n lines))
unfolding flatten tabulate
each_short zero most lines h = record { bound = omega arith }
each_short (suc n) most lines h =
    let more = each_short n most (λ i. lines (suc i)) (λ i l. h (suc i) (omega arith)) in
    record { bound = omega (arith, (h zero (omega arith) ⊕ more).bound, suc-mul n most) }

-- ---- a line

-- A line of this key and field reads as v, and takes at most so many bytes.
pub record Line {A : Type 0} (key : String) (read : List ℕ → Field A) (s : List ℕ) (v : A) (most : ℕ) : Type 0 where
  pub back : (empty : A) (rest : List ℕ) (k : ℕ) → line empty key read (on (line_of key s ++ rest) k) ≡ record { value = v; next = on rest (k + 1) }
  pub short : Short most (line_of key s)

module _ {A : Type 0} {P : A → Type 0} {most : ℕ} {read : List ℕ → Field A} {write : A → List ℕ} (law : Law P most read write) (key : String) where
  -- A line that reads was written so.
  pub line_only : (empty : A) (c : Cursor) → Wrote c (line_of key (write (line empty key read c).value)) (line empty key read c).next
  unfolding line settle and_then
  line_only empty (stopped n k) = record { wrote = λ live. absurd live }
  line_only empty (on text k) = record { wrote = λ live. (tt, outer (after_key (bytes key) text) refl live) }
    where
      rest : List ℕ
      rest = drop (before 10 text + 1) text

      inner : (s : List ℕ) → after_key (bytes key) text ≡ is s → (x : Field A) → read s ≡ x → Live (settle empty text k x).next
          → text ≡ line_of key (write (settle empty text k x).value) ++ ahead (settle empty text k x).next
      inner s e (is v) q live =
          field_only (bytes key) text s e ∙ ap (λ (t : List ℕ). bytes key ++ t ++ (10 ∷ rest)) (law.only s v q) ∙ sym (line_app key (write v) rest)
      inner s e (bad n) q live = absurd live

      outer : (x : Field (List ℕ)) → after_key (bytes key) text ≡ x → Live (settle empty text k (and_then x read)).next
          → text ≡ line_of key (write (settle empty text k (and_then x read)).value) ++ ahead (settle empty text k (and_then x read)).next
      outer (is s) e live = inner s e (read s) refl live
      outer (bad n) e live = absurd live

  -- A line that is written reads back, and is short.
  pub line_back : free 10 (bytes key) ≡ true → (v : A) → P v → Line key read (write v) v (length (bytes key) + (most + 1))
  unfolding line settle and_then
  line_back plain v h =
      record {
        back = λ empty rest k. rw (
          line_app key (write v) rest,
          field_back (bytes key) (write v) rest whole,
          law.back v h,
          cut_back 10 (bytes key ++ write v) rest whole,
        );
        short = record { bound = omega (arith, line-length key (write v), law.short v h) };
      }
    where
      whole : free 10 (bytes key ++ write v) ≡ true
      whole = free_app 10 (bytes key) (write v) plain (law.plain v h)
