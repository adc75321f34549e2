-- The signs and zeros that parse takes are no number's.
use Rattle.std.proofs.Common.{◌≡◌, ◌≤◌, length, get_or, arith, sym, subst, ◌∙◌}
use borrow.Author.Tests.{le-ltb}
use Rattle.callline.specs.Lines.{ReadsNumber}
use Rattle.callline.proofs.Reading.{no_sign, no_zero, number_read, first_is, first_not, clash}
use Rattle.callline.proofs.read_number.Goals as goal
use Rattle.callline.proofs.read_number.Goals.{then-starts_with-via-then-starts_with, then-starts_with-via-else-starts_with+then-starts_with-2, then-s-gt1, else-s-gt1}

pub returns-then-starts_with : goal.returns-then-starts_with
returns-then-starts_with c = let s = c.args.s.now in elim c.then-starts_with.branch [
  | then-starts_with-via-then-starts_with w ↦ no_sign s (first_is s 43 _ (c.starts_with.ensures.byte (omega arith) (omega arith) (λ _ _ h. h)) w.if-starts_with.true)
  | then-starts_with-via-else-starts_with+then-starts_with-2 w ↦ elim w.if-s-gt1.branch [
    | then-s-gt1 v ↦ no_zero s (first_is s 48 _ (v.starts_with-then-s-gt1.ensures.byte (omega arith) (omega arith) (λ _ _ h. h)) (sym v.value-is ∙ w.if-starts_with-2.true)) (omega (arith, v.if-s-gt1.true))
    | else-s-gt1 v ↦ absurd (clash _ w.if-starts_with-2.true (v.value-is ∙ le-ltb 1 (length s) v.if-s-gt1.false))
  ]
]

pub returns : goal.returns
returns c =
    let s = c.args.s.now in
    let plus = first_not s 43 _ (c.starts_with.ensures.byte (omega arith) (omega arith) (λ _ _ h. h)) c.if-starts_with.false in
    let zeros : get_or s 0 0 ≡ 48 → length s ≤ 1 = λ z. elim c.if-s-gt1.branch [
      | then-s-gt1 v ↦ absurd (first_not s 48 _ (v.starts_with-then-s-gt1.ensures.byte (omega arith) (omega arith) (λ _ _ h. h)) (sym v.value-is ∙ c.if-starts_with-2.false) z)
      | else-s-gt1 v ↦ v.if-s-gt1.false
    ] in
    subst (ReadsNumber s) (sym c.ok.ensures.value) (number_read s c.parse.result c.parse.ensures.value.0 plus zeros)
