-- The lines of a verdict one after the other are what is printed, as the code meets them.
use Prim.Native.Nat.{ℕ, ◌+◌, ◌≤◌, ◌<◌}
use mathlib.Core.Path.{◌≡◌, sym, ap, ◌∙◌, subst}
use mathlib.Core.List.{List, [], ◌∷◌, ◌++◌}
use native.Mathlib.Omega.{arith}
use lib.ListN.{length, drop, length-append}
use lib.Seq.{sets, length-sets}
use Rattle.scan.specs.Bytes.{bytes}
use Rattle.numerals.specs.Numerals.{decimal_width, decimal_of}
use Rattle.numerals.specs.Places.{fitting}
use Rattle.numerals.proofs.Digits.{decimal-length, width-within}
use Rattle.numerals.proofs.Fitting.{fits_all}
use Rattle.rules.specs.declared.Text.{Text}
use Rattle.rules.specs.declared.Text.TheVariants.{Plan as PlanText, Policy as PolicyText}
use Rattle.rules.specs.declared.Breach.{Breach}
use Rattle.rules.specs.declared.Fault.{Fault}
use Rattle.rules.specs.declared.Verdict.{Verdict}
use Rattle.rules.specs.declared.Verdict.TheVariants.{Accepted, Broken, Unread}
use Rattle.rules.specs.Judge.{text_number, numbers_of, report_of, report, line_bytes, lines_bytes, printed}
use Rattle.report.specs.Lines.{PutAt, figure_line, text_line}
use Rattle.report.proofs.Appended.{both_parts, last_part, all_parts}

-- ---- a line of a key and a number

module _ (xs key : List ℕ) (at n : ℕ) (room : at + length key + decimal_width n + 1 ≤ length xs) (a : ℕ) (ys : List ℕ) (first : PutAt xs at key ys a)
    (b : ℕ) (zs : List ℕ) (second : (zs ≡ sets ys a (fitting ys a (decimal_of n))) × (b ≡ a + length (fitting ys a (decimal_of n)))) where
  same_length : length ys ≡ length xs
  same_length = ap length first.left ∙ length-sets xs at key

  fits : fitting ys a (decimal_of n) ≡ decimal_of n
  fits =
      let l = decimal-length n in
      let p = first.next in
      let q = same_length in
      fits_all ys a (decimal_of n) (omega (arith, l, p, q, room))

  digits : PutAt ys a (decimal_of n) zs b
  digits = record {
    next = second.1 ∙ ap (λ (l : List ℕ). a + length l) fits;
    left = second.0 ∙ ap (λ (l : List ℕ). sets ys a l) fits;
  }

  pub newline_room : b + 1 ≤ length zs
  newline_room =
      let l = decimal-length n in
      let p = first.next in
      let q = digits.next in
      let e = ap length digits.left ∙ length-sets ys a (decimal_of n) ∙ same_length in
      omega (arith, l, p, q, e, room)

  pub figure_appended : (us : List ℕ) (r : ℕ) → PutAt zs b (10 ∷ []) us r → PutAt xs at (figure_line key n) us r
  unfolding figure_line
  figure_appended us r third = both_parts (key ++ decimal_of n) (10 ∷ []) (both_parts key (decimal_of n) first digits) third

figure_length : (key : List ℕ) (n : ℕ) → length (figure_line key n) ≡ length key + decimal_width n + 1
unfolding figure_line
figure_length key n =
    length-append (key ++ decimal_of n) (10 ∷ []) ∙ ap (λ (k : ℕ). k + 1) (length-append key (decimal_of n) ∙ ap (λ (k : ℕ). length key + k) (decimal-length n))

pub figure_end : {xs ys : List ℕ} (key : List ℕ) {at : ℕ} (n : ℕ) {r : ℕ} → PutAt xs at (figure_line key n) ys r → r ≡ at + length key + decimal_width n + 1
figure_end key n e =
    let p = e.next in
    let q = figure_length key n in
    omega (arith, p, q)

-- A number below 1,000 has at most three digits.
pub small_width : (n : ℕ) → n < 1000 → decimal_width n ≤ 3
small_width n h = width-within n 2 h

-- ---- the line that names the text

module _ (t : Text) (xs ys : List ℕ) (at r : ℕ) where
  pub plan_named : t ≡ PlanText → PutAt xs at (bytes "text=plan\n") ys r → PutAt xs at (text_line t) ys r × (r ≤ at + 12)
  unfolding text_number text_line
  plan_named e a = (subst (λ (t : Text). PutAt xs at (text_line t) ys r) (sym e) a, let p = a.next in omega (arith, p))

  pub policy_named : t ≡ PolicyText → PutAt xs at (bytes "text=policy\n") ys r → PutAt xs at (text_line t) ys r × (r ≤ at + 12)
  unfolding text_number text_line
  policy_named e a = (subst (λ (t : Text). PutAt xs at (text_line t) ys r) (sym e) a, let p = a.next in omega (arith, p))

-- ---- the verdicts

-- What write_verdict ensures.
abbrev pub Written : Verdict → List ℕ → List ℕ → ℕ → Type 0
Written v xs ys r = ((r ≡ length (printed v)) × (ys ≡ printed v ++ drop r xs)) × (r ≤ length ys)

within : (v : Verdict) (xs ys : List ℕ) (r : ℕ) → PutAt xs 0 (printed v) ys r → length xs ≡ 64 → r ≤ 64 → Written v xs ys r
within v xs ys r e l h =
    let w = all_parts e (subst (λ (k : ℕ). r ≤ k) (sym l) h) in
    let p = w.0 in
    let q = ap length w.1 ∙ length-append (printed v) (drop r xs) in
    (w, omega (arith, p, q))

pub accepted_written : (xs ys : List ℕ) (r : ℕ) → PutAt xs 0 (bytes "verdict=accepted\n") ys r → length xs ≡ 64 → r ≤ 64
    → Written Accepted xs ys r
unfolding numbers_of report_of report line_bytes lines_bytes printed
accepted_written xs ys r e l h = within Accepted xs ys r e l h

pub broken_written : (v : Breach) (xs x₁ x₂ x₃ x₄ x₅ : List ℕ) (r₁ r₂ r₃ r₄ r₅ : ℕ) → PutAt xs 0 (bytes "verdict=broken\n") x₁ r₁
    → PutAt x₁ r₁ (figure_line (bytes "rule=") v.rule) x₂ r₂ → PutAt x₂ r₂ (figure_line (bytes "first=") v.first) x₃ r₃
    → PutAt x₃ r₃ (figure_line (bytes "second=") v.second) x₄ r₄ → PutAt x₄ r₄ (figure_line (bytes "identifier=") v.identifier) x₅ r₅
    → length xs ≡ 64 → r₅ ≤ 64 → Written (Broken v) xs x₅ r₅
unfolding numbers_of report_of report line_bytes lines_bytes printed figure_line
broken_written v xs x₁ x₂ x₃ x₄ x₅ r₁ r₂ r₃ r₄ r₅ a b c d e l h =
    within (Broken v) xs x₅ r₅ (both_parts _ _ a (both_parts _ _ b (both_parts _ _ c (both_parts _ _ d (last_part _ e))))) l h

pub unread_written : (v : Fault) (xs x₁ x₂ x₃ x₄ : List ℕ) (r₁ r₂ r₃ r₄ : ℕ) → PutAt xs 0 (bytes "verdict=unread\n") x₁ r₁
    → PutAt x₁ r₁ (text_line v.text) x₂ r₂ → PutAt x₂ r₂ (figure_line (bytes "number=") v.number) x₃ r₃
    → PutAt x₃ r₃ (figure_line (bytes "line=") v.line) x₄ r₄
    → length xs ≡ 64 → r₄ ≤ 64 → Written (Unread v) xs x₄ r₄
unfolding numbers_of report_of report line_bytes lines_bytes printed figure_line text_line
unread_written v xs x₁ x₂ x₃ x₄ r₁ r₂ r₃ r₄ a b c d l h =
    within (Unread v) xs x₄ r₄ (both_parts _ _ a (both_parts _ _ b (both_parts _ _ c (last_part _ d)))) l h

-- The same of a verdict that is known by an equation.
pub same_written : (v w : Verdict) (xs ys : List ℕ) (r : ℕ) → v ≡ w → Written w xs ys r → Written v xs ys r
same_written v w xs ys r e h = subst (λ (v : Verdict). Written v xs ys r) (sym e) h
