-- The line ends before byte 10, and the key begins it.
use mathlib.Core.Path.{ap, ◌∙◌}
use Rattle.text.specs.Cursors.{opened_of}
use Rattle.text.proofs.Opening.{open_none, open_other, key_fits, open_found}
use Rattle.text.proofs.Lines.open.Goals as goal

pub returns-in_err-end-clause-opened : goal.returns-in_err-end-clause-opened
unfolding opened_of
returns-in_err-end-clause-opened c = ap (opened_of _) c.from_residual.ensures ∙ open_none _ _ _ _ c.find.ensures.place c.in_err-end.was

pub returns-then-not-starts_with-clause-opened : goal.returns-then-not-starts_with-clause-opened
unfolding opened_of
returns-then-not-starts_with-clause-opened c = search (open_other, c.find.ensures.place, c.find.ensures.inside, c.in_ok-end.was)

pub slice_bounds-result-count : goal.slice_bounds-result-count
slice_bounds-result-count c = search (key_fits, c.find.ensures.place, c.find.ensures.inside, c.in_ok-end.was)

pub slice_bounds-result-start : goal.slice_bounds-result-start
slice_bounds-result-start c = search (key_fits, c.find.ensures.place, c.find.ensures.inside, c.in_ok-end.was)

pub returns-clause-opened : goal.returns-clause-opened
unfolding opened_of
returns-clause-opened c = search (open_found, c.find.ensures.place, c.find.ensures.inside, c.in_ok-end.was)
