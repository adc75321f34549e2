-- A text that is too long, refused at a line or read to its end, the plan's or the policy's: what it answers, and what it hands
-- back.
use Prim.Native.Nat.{ℕ}
use mathlib.Core.Path.{◌≡◌, refl, ap, ◌∙◌, subst}
use mathlib.Core.Bool.{true}
use mathlib.Core.List.{List}
use lib.Dec.{leb}
use lib.ListN.{length}
use Rattle.std.specs.Prelude.{Result, Ok, Err, IsErrAnd}
use Rattle.text.specs.Reading.{longest, Reading, Complete, Refused, Cursor, on, Reader, closed, checked, if_complete}
use Rattle.text.specs.Answers.{refusal_of, reading_of}
use Rattle.text.specs.Cursors.{standing, stopped_at, Started}
use Rattle.text.specs.declared.Refused.{Refused as RefusedLine}
use Rattle.text.specs.declared.Lines.{Lines}

-- The definition's answer, with what is handed back; and the code's, which says the same of a value and of a refusal.
module _ {A P : Type 0} (answers : Reading → A → P) (none : A) (body : Reader A) (given : Result A RefusedLine → P)
    (of_value : (v : A) → given (Ok v) ≡ answers Complete v) (of_refusal : (e : RefusedLine) → given (Err e) ≡ answers (Refused (refusal_of e)) none)
    (text : List ℕ) (x : Result Lines RefusedLine) (s : Started text x) where
  abbrev pub Whole : P
  Whole = let answer = checked text (body (on text 1)).next in answers answer (if_complete answer (body (on text 1)).value none)

  -- As a `?` hands on a refusal.
  abbrev pub Refuses : RefusedLine → Type 0
  Refuses e = (r : Result A RefusedLine) → IsErrAnd r (λ w. w ≡ e) → given r ≡ Whole

  refuses : (e : RefusedLine) → checked text (body (on text 1)).next ≡ Refused (refusal_of e) → Refuses e
  unfolding if_complete
  refuses e h (Ok v) q = absurd q
  refuses e h (Err w) q = of_refusal w ∙ rw (h, q) refl

  pub text_long : (e : RefusedLine) → x ≡ Err e → Refuses e
  unfolding Started checked
  text_long e h = let q = rw h at s in refuses e (rw (q.0, q.1) refl)

  module _ (lines : Lines) (l : x ≡ Ok lines) where
    fits : leb (length text) longest ≡ true
    unfolding Started
    fits = let q = rw l at s in q.0

    first : standing lines ≡ on text 1
    unfolding Started
    first = let q = rw l at s in q.1

    pub text_stop : (e : RefusedLine) → (body (standing lines)).next ≡ stopped_at e → Refuses e
    unfolding checked closed
    text_stop e h = let there = subst (λ (c : Cursor). (body c).next ≡ stopped_at e) first h in refuses e (rw (there, fits) refl)

    module _ (v : A) (c : Cursor) (b : body (standing lines) ≡ record { value = v; next = c }) (y : Result (Unit {0}) RefusedLine) (k : reading_of y ≡ closed c) where
      read : body (on text 1) ≡ record { value = v; next = c }
      read = subst (λ (c' : Cursor). body c' ≡ record { value = v; next = c }) first b

      ended : checked text (body (on text 1)).next ≡ reading_of y
      unfolding checked
      ended = rw (read, fits, k) refl

      pub end_stop : (e : RefusedLine) → y ≡ Err e → Refuses e
      end_stop e p = refuses e (ended ∙ ap (λ (y : Result (Unit {0}) RefusedLine). reading_of y) p)

      pub text_whole : (u : Unit {0}) → y ≡ Ok u → given (Ok v) ≡ Whole
      unfolding if_complete
      text_whole u p = of_value v ∙ rw (ended, p, read) refl
