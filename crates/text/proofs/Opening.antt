-- A line opened and read, over plain variables: `search` finds the premises in what the code has shown.
use Prim.Native.Nat.{ℕ, ◌+◌, ◌-◌, ◌≤◌, ◌<◌}
use mathlib.Core.Path.{◌≡◌, refl, sym, ap, ◌∙◌, subst}
use mathlib.Core.List.{List, [], ◌∷◌}
use mathlib.Core.Bool.{Bool, true, false, not}
use native.Mathlib.Omega.{arith}
use lib.ListN.{length, take, drop, length-take}
use denote.Ref.{Bor}
use Prim.Native.String.{String}
use Rattle.std.specs.Prelude.{Option, Some, None, Result, Ok, Err, IfSome, IsErrAnd, unwrap_or}
use borrow.Author.Tests.{lt-ltb, le-ltb, lt-leb, le-leb, not-true, not-false}
use Rattle.lists.proofs.Tests.{told}
use Rattle.scan.specs.Bytes.{bytes, before, starts_with}
use Rattle.scan.proofs.Parts.{rest_of, drop-take}
use Rattle.scan.proofs.Steps.{starts_long}
use Rattle.field.specs.Fields.{Field, is, bad, and_then, number}
use Rattle.field.specs.Answers.{field_of, ranged_of}
use Rattle.field.specs.declared.Refusal.{Refusal as Reason}
use Rattle.field.specs.declared.Refusal.TheVariants.{TooLong, Layout}
use Rattle.text.specs.Reading.{longest, Complete, Refused, Cursor, on, stopped, Step, after_key, settle, line, closed}
use Rattle.text.specs.Cursors.{stopped_at, Started, begins, Opened, found, gone, opened, opened_of, settled, Settled, after, keyed, Answered, Gives, seen}
use Rattle.text.specs.declared.Refused.{Refused as RefusedLine}
use Rattle.text.specs.declared.Lines.{Lines}

-- The definition's `line` is `keyed` with the bytes of its key.
pub keyed-line : {A : Type 0} (empty : A) (key : String) (read : List ℕ → Field A) (c : Cursor) → keyed empty (bytes key) read c ≡ line empty key read c
unfolding keyed after opened settled line settle after_key and_then
keyed-line {A} empty key read (on text k) = go (begins (bytes key) text) refl
  where
    inner : (x : Field A) → settled empty (drop (before 10 text + 1) text) k x ≡ settle empty text k x
    inner (is v) = refl
    inner (bad n) = refl

    go : (b : Bool) → begins (bytes key) text ≡ b → keyed empty (bytes key) read (on text k) ≡ line empty key read (on text k)
    go true e = rw (e, keyed, opened, line, after_key) (inner (read (drop (length (bytes key)) (take (before 10 text) text))))
    go false e = rw (e, keyed, opened, line, after_key)
keyed-line empty key read (stopped n k) = refl

-- ---- the field of a line

module _ (key text : List ℕ) (k : ℕ) (o : Option ℕ) (e : unwrap_or o (length text) ≡ before 10 text) where
  pub open_none : o ≡ None → gone (stopped 2 k) ≡ opened key (on text k)
  unfolding opened
  open_none s =
      let all : length text ≡ before 10 text = ap (λ (r : Option ℕ). unwrap_or r (length text)) (sym s) ∙ e in
      rw (← all, le-ltb (length text) (length text) (omega arith), opened)

  module _ (i : IfSome o (λ m. m < length text)) (n : ℕ) (s : o ≡ Some n) (b : Bool) (d : b ≡ starts_with key (take n text)) where
    place : n ≡ before 10 text
    place = ap (λ (r : Option ℕ). unwrap_or r (length text)) (sym s) ∙ e

    inside : n < length text
    inside = subst (λ (r : Option ℕ). IfSome r (λ m. m < length text)) s i

    pub open_other : not b ≡ true → gone (stopped 2 k) ≡ opened key (on text k)
    unfolding opened
    open_other q = rw (← place, lt-ltb n (length text) inside, told d (not-true b q), opened)

    module _ (q : not b ≡ false) where
      pub key_fits : length key ≤ n
      key_fits = let fits = starts_long key (take n text) (told d (not-false b q)) in omega (arith, simp length-take at fits)

      pub open_found : found (take (n - length key) (drop (length key) text)) (take (length text - (n + 1)) (drop (n + 1) text)) k ≡ opened key (on text k)
      unfolding opened
      open_found = rw (← place, lt-ltb n (length text) inside, told d (not-false b q), opened, rest_of, drop-take)

-- ---- a line answered

module _ {A : Type 0} (Gave : List ℕ → Result A Reason → Type 0) (key text : List ℕ) (k : ℕ) (x : Option (Bor (List ℕ) × Lines)) (o : opened_of k x ≡ opened key (on text k)) where
  pub missing_answer : (c : Cursor) → x ≡ None → (l : ℕ) → l ≡ k → Answered Gave (opened key (on text k)) c (Err (record { refusal = Layout; line = l }))
  unfolding opened_of Answered
  missing_answer c e l h = rw (← o, e, h) (record { refusal = Layout; line = k }, refl, refl)

  module _ (field : Bor (List ℕ)) (next : Lines) (e : x ≡ Some (field, next)) (y : Result A Reason) (g : Gave field.now y) where
    pub refused_answer : (c : Cursor) (z : Reason) → y ≡ Err z → Answered Gave (opened key (on text k)) c (Err (record { refusal = z; line = k }))
    unfolding opened_of Answered Settled
    refused_answer c z h = rw (← o, e) (y, g, rw h refl)

    pub read_answer : (v : A) → y ≡ Ok v → next.line ≡ k + 1 → Answered Gave (opened key (on text k)) (on next.rest.now next.line) (Ok v)
    unfolding opened_of Answered Settled
    read_answer v h l = rw (← o, e) (y, g, rw h (refl, ap (λ (j : ℕ). on next.rest.now j) l))

-- ---- the two ends

pub long_text : (text : List ℕ) → longest < length text → (z : Reason) → z ≡ TooLong → Started text (Err (record { refusal = z; line = 0 }))
unfolding Started
long_text text h z e = (lt-leb (length text) longest h, rw e refl)

pub started : (text : Bor (List ℕ)) → length text.now ≤ longest → (room : 1 + length text.now ≤ 16385) → Started text.now (Ok (record { rest = text; line = 1; room = room }))
unfolding Started
started text h room = (le-leb (length text.now) longest h, refl)

pub closed_whole : (text : List ℕ) (k : ℕ) → length text ≡ 0 → Complete ≡ closed (on text k)
unfolding closed
closed_whole [] k e = refl
closed_whole (x ∷ text) k e = absurd (omega (arith, e))

pub closed_extra : (text : List ℕ) (k : ℕ) → 0 < length text → Refused (record { number = 2; line = k }) ≡ closed (on text k)
unfolding closed
closed_extra [] k h = absurd (omega (arith, h))
closed_extra (x ∷ text) k h = refl

-- ---- as the definition's line

module _ {A B : Type 0} (view : A → B) (empty : B) (key : List ℕ) (read : List ℕ → Field B) (c next : Cursor) (r : Result A RefusedLine)
    (Gave : List ℕ → Result A Reason → Type 0) where
  settled_gives : (rest : List ℕ) (k : ℕ) (x : Result A Reason) → Settled x rest k next r → Gives view (settled empty rest k (seen view x)) next r
  unfolding Settled settled Gives
  settled_gives rest k (Ok v) h = rw (h.0, h.1) refl
  settled_gives rest k (Err e) h = rw h refl

  after_gives : (o : Opened) → Answered Gave o next r → ((s : List ℕ) (x : Result A Reason) → Gave s x → seen view x ≡ read s) → Gives view (after empty read o) next r
  unfolding Answered after Gives
  after_gives (found s rest k) a h = rw (← h s a.0 a.1) (settled_gives rest k a.0 a.2)
  after_gives (gone d) a h = rw a.1 a.2

  keyed_gives : Answered Gave (opened key c) next r → ((s : List ℕ) (x : Result A Reason) → Gave s x → seen view x ≡ read s) → Gives view (keyed empty key read c) next r
  unfolding keyed
  keyed_gives = after_gives (opened key c)

-- A line of the code is the definition's, where its fields are read as the definition reads them: it was read,
module _ {A B : Type 0} (view : A → B) (empty : B) (key : String) (read : List ℕ → Field B) (c next : Cursor) (r : Result A RefusedLine)
    (Gave : List ℕ → Result A Reason → Type 0) (a : Answered Gave (opened (bytes key) c) next r) (h : (s : List ℕ) (x : Result A Reason) → Gave s x → seen view x ≡ read s) where
  gives : Gives view (line empty key read c) next r
  gives = subst (λ (s : Step B). Gives view s next r) (keyed-line empty key read c) (keyed_gives view empty (bytes key) read c next r Gave a h)

  pub seen_value : (v : A) → r ≡ Ok v → line empty key read c ≡ record { value = view v; next = next }
  unfolding Gives
  seen_value v e = rw e at gives

  pub seen_stop : (e : RefusedLine) → r ≡ Err e → (line empty key read c).next ≡ stopped_at e
  unfolding Gives
  seen_stop e q = rw q at gives

field_seen : {A : Type 0} (x : Result A Reason) → seen (λ v. v) x ≡ field_of x
field_seen (Ok v) = refl
field_seen (Err e) = refl

-- the same for a value as it is,
module _ {A : Type 0} (empty : A) (key : String) (read : List ℕ → Field A) (c next : Cursor) (r : Result A RefusedLine)
    (Gave : List ℕ → Result A Reason → Type 0) (a : Answered Gave (opened (bytes key) c) next r) (h : (s : List ℕ) (x : Result A Reason) → Gave s x → field_of x ≡ read s) where
  pub line_value : (v : A) → r ≡ Ok v → line empty key read c ≡ record { value = v; next = next }
  line_value = seen_value (λ v. v) empty key read c next r Gave a (λ s x g. field_seen x ∙ h s x g)

  pub line_stop : (e : RefusedLine) → r ≡ Err e → (line empty key read c).next ≡ stopped_at e
  line_stop = seen_stop (λ v. v) empty key read c next r Gave a (λ s x g. field_seen x ∙ h s x g)

-- and for what a reader of more lines gives.
module _ {A B : Type 0} (view : A → B) (s : Step B) (next : Cursor) (r : Result A RefusedLine) (g : Gives view s next r) where
  pub gives_value : (v : A) → r ≡ Ok v → s ≡ record { value = view v; next = next }
  unfolding Gives
  gives_value v e = rw e at g

  pub gives_stop : (e : RefusedLine) → r ≡ Err e → s.next ≡ stopped_at e
  unfolding Gives
  gives_stop e q = rw q at g

-- As a `?` hands on a refusal.
pub handed_on : {A B : Type 0} (view : A → B) (s : Step B) (next : Cursor) (r : Result A RefusedLine) (e : RefusedLine)
    → s.next ≡ stopped_at e → IsErrAnd r (λ w. w ≡ e) → Gives view s next r
unfolding Gives
handed_on view s next (Ok v) e h q = absurd q
handed_on view s next (Err w) e h q = rw q h

pub read_on : {A B : Type 0} (view : A → B) (s : Step B) (next : Cursor) (v : A) → s ≡ record { value = view v; next = next } → Gives view s next (Ok v)
unfolding Gives
read_on view s next v e = e

-- A line's number, or None out of range, which the caller refuses with any number on the line where reading stood.
unfoldable pub Ranged : ℕ → ℕ → Cursor → Step ℕ → Result (Option ℕ) RefusedLine → Type 0
Ranged refusal k next s (Ok (Some v)) = s ≡ record { value = v; next = next }
Ranged refusal k next s (Ok None) = s.next ≡ stopped refusal k
Ranged refusal k next s (Err e) = s.next ≡ stopped_at e

settled_ranged : (refusal k : ℕ) (rest : List ℕ) (next : Cursor) (x : Result (Option ℕ) Reason) (r : Result (Option ℕ) RefusedLine)
    → Settled x rest k next r → Ranged refusal k next (settled 0 rest k (ranged_of refusal x)) r
unfolding Settled settled Ranged
settled_ranged refusal k rest next (Ok (Some v)) r q = rw (q.0, q.1) refl
settled_ranged refusal k rest next (Ok None) r q = rw q.0 refl
settled_ranged refusal k rest next (Err e) r q = rw q refl

pub ranged : (refusal low limit : ℕ) (key text : List ℕ) (k : ℕ) (next : Cursor) (r : Result (Option ℕ) RefusedLine) (Gave : List ℕ → Result (Option ℕ) Reason → Type 0)
    → Answered Gave (opened key (on text k)) next r → ((s : List ℕ) (x : Result (Option ℕ) Reason) → Gave s x → ranged_of refusal x ≡ number refusal low limit s)
    → Ranged refusal k next (keyed 0 key (number refusal low limit) (on text k)) r
unfolding keyed opened after Answered Ranged
ranged refusal low limit key text k next r Gave a h = go (begins key text) refl
  where
    go : (b : Bool) → begins key text ≡ b → Ranged refusal k next (keyed 0 key (number refusal low limit) (on text k)) r
    go true e = let q = rw (e, opened) at a in rw (e, keyed, opened, after, ← h _ q.0 q.1) (settled_ranged refusal k _ next q.0 r q.2)
    go false e = let q = rw (e, opened) at a in rw (e, keyed, opened, after, q.1) q.2
