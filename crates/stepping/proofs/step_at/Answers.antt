-- The templates looked up are the plan's, their numbers being below N; then a refusal by its number, or the move.
use Rattle.std.proofs.Common.{rules, refl, arith}
use Rattle.std.proofs.lemmas.Result.{err_from_is_err_and}
use Rattle.stepping.proofs.Room.{serials_left, places_left, room_left}
use Rattle.stepping.proofs.Heirs.{mapped}
use Rattle.stepping.proofs.Steps.{place_refused, place_done}
use Rattle.stepping.proofs.step_at.Goals as goal

pub returns-in_err-admit : goal.returns-in_err-admit
returns-in_err-admit c = let p = err_from_is_err_and c.from_residual.result c.from_residual.ensures.1 in
    rw (p.1, p.2) (place_refused _ _ _ _ _ _ c.requires.0 _ c.identifier_count-m.ensures _ c.template_at-t.ensures _ c.children_of-heirs.ensures
    _ (mapped _ _ _ _ (λ y child q. search rules) c.map-children.ensures) _ c.in_err-admit.ensures _ refl)

pub overflow_add-counts : goal.overflow_add-counts
overflow_add-counts c = let l = serials_left _ _ _ _ _ _ _ _ c.in_ok-admit.ensures c.requires.0 c.requires.1 in omega (arith, l, c.count-born.ensures)

pub overflow_add-counts-2 : goal.overflow_add-counts-2
overflow_add-counts-2 c = let l = places_left _ _ _ _ _ _ _ _ c.in_ok-admit.ensures c.requires.0 c.requires.1 in omega (arith, l, c.count-born.ensures)

pub returns : goal.returns
returns c =
    place_done _ _ _ _ _ _ c.requires.0 _ c.identifier_count-m.ensures _ c.template_at-t.ensures _ c.children_of-heirs.ensures
    _ (mapped _ _ _ _ (λ y child q. search rules) c.map-children.ensures) _ c.in_ok-admit.ensures _ _ _ refl (omega (arith, c.count-born.ensures)) c.count-born.ensures
    (room_left _ _ _ _ _ _ _ _ c.in_ok-admit.ensures c.requires.0 c.requires.1) c.advance.ensures
