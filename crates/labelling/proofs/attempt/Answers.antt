-- The refusals in document order, each by its law; then the label at the place found.
use mathlib.Core.Path.{refl}
use native.Mathlib.Omega.{arith}
use Rattle.std.proofs.lemmas.Result.{err_from_is_err_and}
use Rattle.population.proofs.Lent.{of_live, tried_wide}
use Rattle.labelling.proofs.Labels.{move_gone, move_refused, move_done}
use Rattle.labelling.proofs.attempt.Goals as goal

pub returns-in_err-k : goal.returns-in_err-k
returns-in_err-k c = λ tags. of_live _ _ (λ next. let p = err_from_is_err_and c.from_residual.result c.from_residual.ensures.1 in
    rw (p.1, p.2, c.in_err-k.ensures.1) (move_gone _ _ _ _ _ _ _ _ _ _ c.told-serials _ c.in_err-k.ensures.0 (omega arith)))

pub returns-then-m-gt32 : goal.returns-then-m-gt32
returns-then-m-gt32 c = λ tags. of_live _ _ (λ next. tried_wide _ _ _ _ _ c.identifier_count-m.ensures c.if-m-gt32.true)

pub returns-in_err-permit : goal.returns-in_err-permit
returns-in_err-permit c = λ tags. of_live _ _ (λ next. let p = err_from_is_err_and c.from_residual-in_err-permit.result c.from_residual-in_err-permit.ensures.1 in
    rw (p.1, p.2) (move_refused _ _ _ _ _ _ _ _ _ _ c.told-serials _ c.in_ok-k.ensures.0 c.in_ok-k.ensures.1 _ c.identifier_count-m.ensures _ c.template_at-t.ensures
    _ c.movable_of.ensures _ c.in_err-permit.ensures _ refl))

pub returns : goal.returns
returns c = λ tags. of_live _ _ (λ next. move_done _ _ _ _ _ _ _ _ _ _ c.told-serials _ c.in_ok-k.ensures.0 c.in_ok-k.ensures.1 _ c.identifier_count-m.ensures _ c.template_at-t.ensures
    _ c.movable_of.ensures _ c.in_ok-permit.ensures refl _ _ _ c.label_with.ensures c.told-labels refl (omega (arith, c.in_ok-k.ensures.1, c.in_ok-k.ensures.2)))
