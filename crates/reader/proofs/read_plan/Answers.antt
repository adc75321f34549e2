-- The length first, then the lines, then that nothing follows.
use Rattle.std.proofs.Common.{rules}
use Rattle.field.specs.Fields.{number}
use Rattle.text.proofs.Opening.{line_value, line_stop}
use Rattle.reader.proofs.Closing.{plan_long, templates_stop, most_templates, identifiers_stop, entries_stop, plan_end, plan_whole}
use Rattle.reader.proofs.read_plan.Goals as goal

pub returns-in_err-lines : goal.returns-in_err-lines
returns-in_err-lines c = plan_long _ _ c.new.ensures _ c.in_err-lines.was _ c.from_residual.ensures.1

pub returns-in_err-n : goal.returns-in_err-n
returns-in_err-n c =
    let n-line = line_stop 0 "templates=" (number 3 1 65) _ _ _ _ c.field.ensures.answer (λ s x h. search rules) _ c.in_err-n.was in
    templates_stop _ _ c.new.ensures _ c.in_ok-lines.was _ n-line _ c.from_residual-in_err-n.ensures.1

pub returns-in_err-m : goal.returns-in_err-m
returns-in_err-m c =
    let n-line = line_value 0 "templates=" (number 3 1 65) _ _ _ _ c.field.ensures.answer (λ s x h. search rules) _ c.in_ok-n.was in
    let m-line = line_stop 0 "identifiers=" (number 3 0 33) _ _ _ _ c.field-2.ensures.answer (λ s x h. search rules) _ c.in_err-m.was in
    identifiers_stop _ _ c.new.ensures _ c.in_ok-lines.was _ _ _ n-line _ m-line _ c.from_residual-in_err-m.ensures.1

pub read_entries-requires : goal.read_entries-requires
read_entries-requires c =
    let n-line = line_value 0 "templates=" (number 3 1 65) _ _ _ _ c.field.ensures.answer (λ s x h. search rules) _ c.in_ok-n.was in
    most_templates _ _ c.new.ensures _ c.in_ok-lines.was _ _ _ n-line

pub returns-in_err-templates : goal.returns-in_err-templates
returns-in_err-templates c =
    let n-line = line_value 0 "templates=" (number 3 1 65) _ _ _ _ c.field.ensures.answer (λ s x h. search rules) _ c.in_ok-n.was in
    let m-line = line_value 0 "identifiers=" (number 3 0 33) _ _ _ _ c.field-2.ensures.answer (λ s x h. search rules) _ c.in_ok-m.was in
    entries_stop _ _ c.new.ensures _ c.in_ok-lines.was _ _ _ n-line _ _ m-line _ _ c.read_entries.ensures _ c.in_err-templates.was _ c.from_residual-in_err-templates.ensures.1

pub returns-in_err-finish : goal.returns-in_err-finish
returns-in_err-finish c =
    let n-line = line_value 0 "templates=" (number 3 1 65) _ _ _ _ c.field.ensures.answer (λ s x h. search rules) _ c.in_ok-n.was in
    let m-line = line_value 0 "identifiers=" (number 3 0 33) _ _ _ _ c.field-2.ensures.answer (λ s x h. search rules) _ c.in_ok-m.was in
    plan_end _ _ c.new.ensures _ c.in_ok-lines.was _ _ _ n-line _ _ m-line _ _ c.read_entries.ensures _ c.in_ok-templates.was _ c.finish.ensures _ c.in_err-finish.was _ c.from_residual-in_err-finish.ensures.1

pub returns : goal.returns
returns c =
    let n-line = line_value 0 "templates=" (number 3 1 65) _ _ _ _ c.field.ensures.answer (λ s x h. search rules) _ c.in_ok-n.was in
    let m-line = line_value 0 "identifiers=" (number 3 0 33) _ _ _ _ c.field-2.ensures.answer (λ s x h. search rules) _ c.in_ok-m.was in
    plan_whole _ _ c.new.ensures _ c.in_ok-lines.was _ _ _ n-line _ _ m-line _ _ c.read_entries.ensures _ c.in_ok-templates.was _ c.finish.ensures _ c.in_ok-finish.was
