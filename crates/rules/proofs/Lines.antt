-- Where a line begins, as the shown part counts, is where so many lines have been passed, as reading counts.
use Prim.Native.Nat.{ℕ, zero, suc, ◌+◌, ◌≤◌}
use mathlib.Core.Path.{◌≡◌, refl, sym, ap, ◌∙◌}
use mathlib.Core.Bool.{Bool, true, false, cond}
use mathlib.Core.List.{List, []}
use native.Mathlib.Omega.{arith}
use lib.Dec.{ltb}
use lib.ListN.{length, drop, drop_of_length-le}
use lib.Seq.{drop-drop}
use borrow.Author.Tests.{ltb-false}
use Rattle.scan.specs.Bytes.{before}
use Rattle.text.proofs.Passed.{after_lines}
use Rattle.rules.specs.Show.{line_start}

-- Nothing is left after the last line.
none_left : (n : ℕ) → after_lines n [] ≡ []
unfolding after_lines before
none_left zero = refl
none_left (suc n) = none_left n

-- From where a line begins on stands the text after the lines before it.
pub from_line : (n start : ℕ) (text : List ℕ) → drop (line_start n start text) text ≡ after_lines n (drop start text)
unfolding line_start after_lines
from_line zero start text = refl
from_line (suc n) start text = go (ltb (start + b) (length text)) refl (from_line n (start + b + 1) text)
  where
    b : ℕ
    b = before 10 (drop start text)

    onward : drop (start + b + 1) text ≡ drop (b + 1) (drop start text)
    onward = let e : start + b + 1 ≡ start + (b + 1) = omega arith in ap (λ (j : ℕ). drop j text) e ∙ sym (drop-drop (b + 1) start text)

    go : (t : Bool) → ltb (start + b) (length text) ≡ t → drop (line_start n (start + b + 1) text) text ≡ after_lines n (drop (start + b + 1) text)
        → drop (cond t (line_start n (start + b + 1) text) (length text)) text ≡ after_lines n (drop (b + 1) (drop start text))
    go true e rest = rest ∙ ap (after_lines n) onward
    go false e rest =
        let end : length text ≤ length text = omega arith in
        let past : length text ≤ start + b + 1 = omega (arith, ltb-false (start + b) (length text) e) in
        drop_of_length-le text end ∙ sym (none_left n) ∙ ap (after_lines n) (sym (drop_of_length-le text past) ∙ onward)
