-- The refusals in document order, each by its law; then the message, by the labels and tags at the two places.
use native.Mathlib.Omega.{arith}
use Rattle.std.proofs.lemmas.Result.{err_from_is_err_and}
use Rattle.population.proofs.Lent.{of_live}
use Rattle.delivery.proofs.Sends.{sent_from_none, sent_to_none, sent_found, sent_short, sent_delivered, sent_held}
use Rattle.delivery.proofs.Passed.{passed_rows}
use Rattle.delivery.proofs.attempt.Goals as goal

pub returns-in_err-a : goal.returns-in_err-a
returns-in_err-a c = λ templates. of_live _ _ (λ next. let p = err_from_is_err_and c.from_residual.result c.from_residual.ensures.1 in
    rw (p.1, p.2, c.in_err-a.ensures.1) (sent_from_none _ _ _ _ _ _ _ _ _ c.told-serials _ c.in_err-a.ensures.0 (omega arith)))

pub returns-in_err-b : goal.returns-in_err-b
returns-in_err-b c = λ templates. of_live _ _ (λ next. let p = err_from_is_err_and c.from_residual-in_err-b.result c.from_residual-in_err-b.ensures.1 in
    rw (p.1, p.2, c.in_err-b.ensures.1) (sent_to_none _ _ _ _ _ _ _ _ _ c.told-serials _ c.in_ok-a.ensures.0 c.in_ok-a.ensures.1 _ c.in_err-b.ensures.0 (omega arith)))

pub returns-then-from-to : goal.returns-then-from-to
returns-then-from-to c = λ templates. of_live _ _ (λ next. search sent_found)

pub bounds-labels-a : goal.bounds-labels-a
bounds-labels-a c = let k = c.in_ok-a.ensures in omega (arith, k.1, k.2, c.told-labels)

pub bounds-labels-b : goal.bounds-labels-b
bounds-labels-b c = let k = c.in_ok-b.ensures in omega (arith, k.1, k.2, c.told-labels)

pub returns-in_default : goal.returns-in_default
returns-in_default c = λ templates. of_live _ _ (λ next.
    sent_short _ _ _ _ _ _ _ _ _ c.told-serials _ c.in_ok-a.ensures.0 c.in_ok-a.ensures.1 _ c.in_ok-b.ensures.0 c.in_ok-b.ensures.1 c.if-from-to.false
    _ c.identifier_count-m.ensures c.told-tags (λ s t. omega (arith, c.in_default.ensures'.0)))

pub returns-in_default-2 : goal.returns-in_default-2
returns-in_default-2 c = λ templates. of_live _ _ (λ next.
    sent_short _ _ _ _ _ _ _ _ _ c.told-serials _ c.in_ok-a.ensures.0 c.in_ok-a.ensures.1 _ c.in_ok-b.ensures.0 c.in_ok-b.ensures.1 c.if-from-to.false
    _ c.identifier_count-m.ensures c.told-tags (λ s t. omega (arith, c.in_default.ensures.0)))

pub returns-then-is_passed : goal.returns-then-is_passed
returns-then-is_passed c = λ templates. of_live _ _ (λ next.
    let p = c.in-Some-Some in
    sent_delivered _ _ _ _ _ _ _ _ _ c.told-serials _ c.in_ok-a.ensures.0 c.in_ok-a.ensures.1 _ c.in_ok-b.ensures.0 c.in_ok-b.ensures.1 c.if-from-to.false
    _ c.identifier_count-m.ensures _ (passed_rows _ _ _ _ _ _ p.ensures.0.1 p.ensures'.0.1 _ _ p.ensures.0.2 p.ensures'.0.2 _ c.is_passed.ensures) c.if-is_passed.true)

pub returns-else-is_passed : goal.returns-else-is_passed
returns-else-is_passed c = λ templates. of_live _ _ (λ next.
    let p = c.in-Some-Some in
    sent_held _ _ _ _ _ _ _ _ _ c.told-serials _ c.in_ok-a.ensures.0 c.in_ok-a.ensures.1 _ c.in_ok-b.ensures.0 c.in_ok-b.ensures.1 c.if-from-to.false
    _ c.identifier_count-m.ensures _ (passed_rows _ _ _ _ _ _ p.ensures.0.1 p.ensures'.0.1 _ _ p.ensures.0.2 p.ensures'.0.2 _ c.is_passed.ensures) c.if-is_passed.false)
