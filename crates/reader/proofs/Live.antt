-- Lines after which reading has not stopped. Such a line was not stopped before, so each of the lines before it was read,
-- and what is true of every value of a field is true of the line's.
use Prim.Native.Nat.{ℕ, ◌≤◌, ◌<◌}
use Prim.Native.String.{String}
use mathlib.Core.Path.{◌≡◌, sym, subst}
use mathlib.Core.Bool.{Bool, true, false, cond}
use mathlib.Core.List.{List}
use native.Mathlib.Omega.{arith}
use lib.Dec.{leb}
use lib.ListN.{length}
use Rattle.field.specs.Fields.{Field, is, number}
use Rattle.field.proofs.Each.{Each, number_range}
use Rattle.text.specs.Reading.{longest, Cursor, on, stopped, Step, line, closed, checked, if_complete, Complete, Refused}
use Rattle.text.proofs.Passed.{Live, field_after, line_read}

-- A line after which reading has not stopped was not stopped before, and its value was read from some field.
pub line_from : {A : Type 0} (empty : A) (key : String) (read : List ℕ → Field A) (c : Cursor)
    → Live (line empty key read c).next → Live c × ((s : List ℕ) × (read s ≡ is (line empty key read c).value))
unfolding line
line_from empty key read (stopped n k) live = absurd live
line_from empty key read (on text k) live = (tt, (field_after key text, (line_read empty key read text k live).2))

-- The same for what is true of every field; so for a number.
pub line_each : {A : Type 0} (P : A → Type 0) (empty : A) (key : String) (read : List ℕ → Field A) → ((s : List ℕ) → Each P (read s))
    → (c : Cursor) → Live (line empty key read c).next → Live c × P (line empty key read c).value
line_each P empty key read h c live =
    let r = line_from empty key read c live in
    (r.0, h r.1.0 (line empty key read c).value r.1.1)

pub count_line : (low limit : ℕ) (key : String) (c : Cursor) → Live (line 0 key (number 3 low limit) c).next
    → Live c × ((low ≤ (line 0 key (number 3 low limit) c).value) × ((line 0 key (number 3 low limit) c).value < limit))
count_line low limit key = line_each (λ v. (low ≤ v) × (v < limit)) 0 key (number 3 low limit) (number_range 3 low limit)

-- ---- the end of the text

complete_live : (c : Cursor) → closed c ≡ Complete → Live c
unfolding closed
complete_live (on text k) e = tt
complete_live (stopped n k) e = let z : ◌≡◌ {A = ℕ} 0 1 = cc in absurd (omega arith)

pub checked_live : (text : List ℕ) (c : Cursor) → checked text c ≡ Complete → Live c
unfolding checked
checked_live text c e = go (leb (length text) longest) e
  where
    go : (b : Bool) → cond b (closed c) (Refused (record { number = 1; line = 0 })) ≡ Complete → Live c
    go true q = complete_live c q
    go false q = let z : ◌≡◌ {A = ℕ} 0 1 = cc in absurd (omega arith)

-- What reading to the end shows of a value is true of what a complete reading hands back.
pub complete_holds : {A : Type 0} (P : A → Type 0) (text : List ℕ) (c : Cursor) (v none : A) → (Live c → P v)
    → checked text c ≡ Complete → P (if_complete (checked text c) v none)
unfolding if_complete
complete_holds P text c v none h e = rw e (h (checked_live text c e))

-- A count that was read is in its range.
pub count_read : (low limit : ℕ) (key : String) (c : Cursor) (v : ℕ) (text : List ℕ) (k : ℕ)
    → line 0 key (number 3 low limit) c ≡ record { value = v; next = on text k } → v < limit
count_read low limit key c v text k e =
    subst (λ (s : Step ℕ). s.value < limit) e (count_line low limit key c (subst (λ (s : Step ℕ). Live s.next) (sym e) tt)).1.1
