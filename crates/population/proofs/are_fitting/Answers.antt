-- The five tests are the definition's, each of a part that is there.
use native.Mathlib.Omega.{arith}
use Rattle.population.proofs.Parts.{rising_part, below_part, masks_part, parts_short, parts_joined}
use Rattle.population.proofs.are_fitting.Goals as goal

pub returns-in_default : goal.returns-in_default
returns-in_default c = parts_short _ _ _ _ _ (λ s t l g. omega (arith, c.in_default.ensures'''.lookup.0, c.row_start-used.ensures))

pub returns-in_default-2 : goal.returns-in_default-2
returns-in_default-2 c = parts_short _ _ _ _ _ (λ s t l g. omega (arith, c.in_default.ensures''.lookup.0))

pub returns-in_default-3 : goal.returns-in_default-3
returns-in_default-3 c = parts_short _ _ _ _ _ (λ s t l g. omega (arith, c.in_default.ensures'.lookup.0))

pub returns-in_default-4 : goal.returns-in_default-4
returns-in_default-4 c = parts_short _ _ _ _ _ (λ s t l g. omega (arith, c.in_default.ensures.lookup.0))

pub returns : goal.returns
returns c =
    let p = c.in-Some-Some-Some-Some in
    let s = p.ensures.lookup.0 in
    let t = p.ensures'.lookup.0 in
    let l = p.ensures''.lookup.0 in
    let g = p.ensures'''.lookup.0 in
    parts_joined _ _ _ _ _ _ _ _ _ _ _ c.row_start-used.ensures
    (rising_part _ _ _ s.1 s.2 _ c.is_rising.ensures)
    (below_part _ _ _ s.1 s.2 _ _ c.all_below.ensures)
    (below_part _ _ _ t.1 t.2 _ _ c.all_below-2.ensures)
    (masks_part _ _ _ l.1 l.2 _ _ c.full_mask-top.ensures _ c.none_above.ensures)
    (below_part _ _ _ g.1 g.2 _ _ c.all_below-3.ensures)
