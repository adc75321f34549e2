-- A text whole: its end, its length, and a row that is filled to its array.
use Prim.Native.Nat.{ℕ, zero, suc, ◌+◌, ◌-◌, ◌^◌, ◌≤◌, ◌<◌}
use mathlib.Core.Path.{◌≡◌, refl, sym, ap, ◌∙◌}
use mathlib.Core.List.{List, [], ◌∷◌, ◌++◌, append-nil}
use mathlib.Core.Bool.{Bool, true, false, cond}
use mathlib.Core.Logic.{◌⊎◌, inl, inr}
use native.Mathlib.Omega.{arith}
use lib.ListN.{length, get_or, replicate, get_or-append}
use lib.Dec.{leb}
use lib.Seq.{ext_get_or}
use lib.Pow.{pow_mono}
use borrow.Author.Tests.{le-leb}
use Rattle.lists.specs.Numbers.{tabulate}
use Rattle.lists.proofs.{Tests.{lt_or_le}, Tabulate.{length-tabulate, get_or-tabulate}}
use Rattle.text.specs.Reading.{longest, Cursor, on, stopped, Reader, closed, checked, if_complete, Complete, Refused}
use Rattle.reader.proofs.{Rows.{row_full, row_past}, Live.{checked_live}}
use Rattle.printing.proofs.Fields.{Masked}
use Rattle.printing.proofs.Lines.{ahead, Wrote, Short}

-- The number of a line so many lines on.
abbrev pub past : ℕ → ℕ → ℕ
past zero k = k
past (suc n) k = past n (k + 1)

-- The reader takes these lines, whatever follows them, for the value; and they are short.
pub record Printed {A : Type 0} (read : Reader A) (lines : List ℕ) (v : A) (most : ℕ) : Type 0 where
  pub back : (rest : List ℕ) (k : ℕ) → (k' : ℕ) × (read (on (lines ++ rest) k) ≡ record { value = v; next = on rest k' })
  pub short : Short most lines

-- ---- the end

-- A text that is read to its end, and not too long, is complete;
pub ended : (text : List ℕ) (k : ℕ) → length text ≤ longest → checked text (on [] k) ≡ Complete
unfolding checked closed
ended text k h = rw (le-leb (length text) longest h)

closed_ended : (c : Cursor) → closed c ≡ Complete → ahead c ≡ []
unfolding closed
closed_ended (on [] k) e = refl
closed_ended (on (b ∷ text) k) e = let z : ◌≡◌ {A = ℕ} 0 1 = cc in absurd (omega arith)
closed_ended (stopped n k) e = refl

-- and a complete one was read to its end.
checked_ended : (text : List ℕ) (c : Cursor) → checked text c ≡ Complete → ahead c ≡ []
unfolding checked
checked_ended text c e = go (leb (length text) longest) e
  where
    go : (b : Bool) → cond b (closed c) (Refused (record { number = 1; line = 0 })) ≡ Complete → ahead c ≡ []
    go true q = closed_ended c q
    go false q = let z : ◌≡◌ {A = ℕ} 0 1 = cc in absurd (omega arith)

-- So a complete text is the lines that its value was read from.
pub complete_only : {A : Type 0} (write : A → List ℕ) (text : List ℕ) (c : Cursor) (v none : A) → Wrote (on text 1) (write v) c
    → checked text c ≡ Complete → text ≡ write (if_complete (checked text c) v none)
unfolding if_complete
complete_only write text c v none w e =
    rw e ((w.wrote (checked_live text c e)).1 ∙ ap (λ (rest : List ℕ). write v ++ rest) (checked_ended text c e) ∙ append-nil (write v))

-- ---- rows

-- A row from a list's first places, and blank places, is the list if it is blank there too.
pub row_whole : {A : Type 0} (d : A) (l : List A) (n size : ℕ) → length l ≡ size → n ≤ size → ((i : ℕ) → n ≤ i → get_or l i d ≡ d)
    → tabulate n (λ i. get_or l i d) ++ replicate (size - n) d ≡ l
row_whole {A} d l n size len h blank =
    ext_get_or d row l (row_full first n size d (length-tabulate n (λ i. get_or l i d)) h ∙ sym len) (λ i g. at i (lt_or_le i n))
  where
    first : List A
    first = tabulate n (λ i. get_or l i d)

    row : List A
    row = first ++ replicate (size - n) d

    at : (i : ℕ) → (i < n) ⊎ (n ≤ i) → get_or row i d ≡ get_or l i d
    at i (inl g) =
        get_or-append first (replicate (size - n) d) d i (omega (arith, length-tabulate n (λ i. get_or l i d)))
        ∙ get_or-tabulate n (λ i. get_or l i d) i d g
    at i (inr g) = row_past first (size - n) i d (omega (arith, length-tabulate n (λ i. get_or l i d))) ∙ sym (blank i g)

-- ---- masks in range

-- A mask over so many items fits into digits of four items each.
pub masked : (width items m : ℕ) → items ≤ width + width + width + width → 16 ^ width ≡ 2 ^ (width + width + width + width) → m < 2 ^ items → Masked width items m
masked width items m h e l = (l, omega (arith, pow_mono {i = items} {j = width + width + width + width} h))
