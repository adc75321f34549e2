-- Finding a line: the loop skips one line a turn, and stops where a line has no byte 10.
use Prim.Native.Nat.{ℕ, zero, suc, ◌+◌, ◌-◌, ◌^◌, ◌≤◌, ◌<◌}
use mathlib.Core.Path.{◌≡◌, refl, sym, ap, ◌∙◌}
use mathlib.Core.Bool.{Bool, cond}
use mathlib.Core.List.{List}
use native.Mathlib.Omega.{arith}
use lib.Dec.{ltb}
use lib.ListN.{length, take, drop, length-drop}
use mir.Syntax.{w64}
use mir.Val.{Fits}
use borrow.Author.Tests.{lt-ltb, le-ltb}
use Rattle.scan.specs.Bytes.{before}
use Rattle.scan.proofs.Steps.{before_le}
use Rattle.scan.proofs.Parts.{rest_of}
use Rattle.rules.specs.Show.{line_start, line_end, faulty_line}

-- The text from a place on, as the code lends it.
abbrev pub rest : List ℕ → ℕ → List ℕ
rest text start = take (length text - start) (drop start text)

pub fits : (text : List ℕ) (m : ℕ) → m ≤ length text → length text < 2 ^ 64 → Fits w64 m
fits text m h k = omega arith

module _ (text : List ℕ) (start n : ℕ) (e : n ≡ before 10 (rest text start)) where
  found : n ≡ before 10 (drop start text)
  found = e ∙ ap (before 10) (rest_of text start)

  pub end_room : start ≤ length text → start + n ≤ length text
  end_room h = omega (arith, found, before_le 10 (drop start text), length-drop start text)

  pub end_is : start + n ≡ line_end start text
  unfolding line_end
  end_is = ap (λ (k : ℕ). start + k) found

-- What the loop keeps: the line is what it would be from here.
pub record Skipping (text : List ℕ) (skipped start left : ℕ) : Type 0 where
  pub inside : start ≤ length text
  pub same : line_start skipped 0 text ≡ line_start left start text

pub skip_none : (text : List ℕ) (skipped : ℕ) → Skipping text skipped 0 (skipped - 0)
skip_none text skipped = let q : skipped ≡ skipped - 0 = omega arith in record { inside = omega arith; same = ap (λ (k : ℕ). line_start k 0 text) q }

-- One line more.
one_line : (text : List ℕ) (start left n : ℕ) → 0 < left → n ≡ before 10 (rest text start)
    → line_start left start text ≡ cond (ltb (start + n) (length text)) (line_start (left - 1) (start + n + 1) text) (length text)
unfolding line_start
one_line text start zero n h e = absurd (omega arith)
one_line text start (suc left) n h e =
    let k : left ≡ suc left - 1 = omega arith in
    ap (λ (b : ℕ). cond (ltb (start + b) (length text)) (line_start left (start + b + 1) text) (length text)) (sym (found text start n e))
    ∙ ap (λ (l : ℕ). cond (ltb (start + n) (length text)) (line_start l (start + n + 1) text) (length text)) k

module _ (text : List ℕ) (skipped start left : ℕ) (s : Skipping text skipped start left) where
  rest_length : length (rest text start) ≡ length text - start
  rest_length = ap length (rest_of text start) ∙ length-drop start text

  pub skip_missing : 0 < left → length (rest text start) ≡ before 10 (rest text start) → length text ≡ line_start skipped 0 text
  skip_missing h e =
      let n : ℕ = length (rest text start) in
      sym (s.same ∙ one_line text start left n h e
      ∙ ap (λ (b : Bool). cond b (line_start (left - 1) (start + n + 1) text) (length text)) (le-ltb (start + n) (length text) (omega (arith, rest_length))))

  pub skip_line : 0 < left → (n : ℕ) → n ≡ before 10 (rest text start) → n < length (rest text start) → (less : ℕ) → left - 1 ≡ less → Skipping text skipped (start + (n + 1)) less
  skip_line h n e g less q =
      let next : start + n + 1 ≡ start + (n + 1) = omega arith in
      record {
        inside = omega (arith, rest_length);
        same =
            s.same ∙ one_line text start left n h e
            ∙ ap (λ (b : Bool). cond b (line_start (left - 1) (start + n + 1) text) (length text)) (lt-ltb (start + n) (length text) (omega (arith, rest_length)))
            ∙ ap (λ (k : ℕ). line_start k (start + n + 1) text) q
            ∙ ap (λ (k : ℕ). line_start less k text) next;
      }

  pub skip_done : left ≤ 0 → start ≡ line_start skipped 0 text
  unfolding line_start
  skip_done h = let z : left ≡ 0 = omega arith in sym (s.same ∙ ap (λ (l : ℕ). line_start l start text) z)

-- ---- a faulty line

pub fault_none : (line : ℕ) (text : List ℕ) → line ≡ 0 → length text ≡ faulty_line line text
unfolding faulty_line
fault_none line text e = sym (ap (λ (l : ℕ). faulty_line l text) e)

pub fault_line : (line r : ℕ) (text : List ℕ) → (line ≡ 0 → ⊥) → r ≡ line_start (line - 1) 0 text → r ≡ faulty_line line text
unfolding faulty_line
fault_line zero r text h e = absurd (h refl)
fault_line (suc k) r text h e = e ∙ ap (λ (l : ℕ). line_start l 0 text) (omega arith)
