-- One line after the other: those before it were read, and the next is refused or read.
use mathlib.Core.Bool.{false}
use Rattle.std.proofs.Common.{rules}
use Rattle.plan.specs.declared.Form.TheVariants.{End}
use Rattle.field.specs.Fields.{mask, form, risk}
use Rattle.text.proofs.Opening.{line_value, line_stop, handed_on, read_on}
use Rattle.entries.specs.Entry.{entry_of}
use Rattle.entries.proofs.Gathered.{name_value, name_refused, name_stop, form_stop, lab_stop, pos_stop, neg_stop, creates_stop, risk_stop, entry_read}
use Rattle.entries.proofs.read_entry.Goals as goal

pub returns-in_err-name-clause-answer : goal.returns-in_err-name-clause-answer
returns-in_err-name-clause-answer c =
    handed_on entry_of _ _ _ _ (name_stop _ _ _ _ _ _ (name_refused _ _ _ _ _ c.field.ensures.answer (λ s x h. search rules) _ c.in_err-name.was)) c.from_residual.ensures.1

pub returns-in_err-form-clause-answer : goal.returns-in_err-form-clause-answer
returns-in_err-form-clause-answer c =
    let name-line = name_value _ _ _ _ _ c.field.ensures.answer (λ s x h. search rules) _ c.in_ok-name.was in
    handed_on entry_of _ _ _ _ (form_stop _ _ _ _ _ _ name-line _ _ (line_stop End "form=" (form c.args.n) _ _ _ _ c.field-2.ensures.answer (λ s x h. search rules) _ c.in_err-form.was)) c.from_residual-in_err-form.ensures.1

pub returns-in_err-lab-clause-answer : goal.returns-in_err-lab-clause-answer
returns-in_err-lab-clause-answer c =
    let name-line = name_value _ _ _ _ _ c.field.ensures.answer (λ s x h. search rules) _ c.in_ok-name.was in
    let form-line = line_value End "form=" (form c.args.n) _ _ _ _ c.field-2.ensures.answer (λ s x h. search rules) _ c.in_ok-form.was in
    handed_on entry_of _ _ _ _ (lab_stop _ _ _ _ _ _ name-line _ _ form-line _ _ (line_stop 0 "lab=" (mask 8 c.args.m) _ _ _ _ c.field-3.ensures.answer (λ s x h. search rules) _ c.in_err-lab.was)) c.from_residual-in_err-lab.ensures.1

pub returns-in_err-pos-clause-answer : goal.returns-in_err-pos-clause-answer
returns-in_err-pos-clause-answer c =
    let name-line = name_value _ _ _ _ _ c.field.ensures.answer (λ s x h. search rules) _ c.in_ok-name.was in
    let form-line = line_value End "form=" (form c.args.n) _ _ _ _ c.field-2.ensures.answer (λ s x h. search rules) _ c.in_ok-form.was in
    let lab-line = line_value 0 "lab=" (mask 8 c.args.m) _ _ _ _ c.field-3.ensures.answer (λ s x h. search rules) _ c.in_ok-lab.was in
    handed_on entry_of _ _ _ _ (pos_stop _ _ _ _ _ _ name-line _ _ form-line _ _ lab-line _ _ (line_stop 0 "pos=" (mask 8 c.args.m) _ _ _ _ c.field-4.ensures.answer (λ s x h. search rules) _ c.in_err-pos.was)) c.from_residual-in_err-pos.ensures.1

pub returns-in_err-neg-clause-answer : goal.returns-in_err-neg-clause-answer
returns-in_err-neg-clause-answer c =
    let name-line = name_value _ _ _ _ _ c.field.ensures.answer (λ s x h. search rules) _ c.in_ok-name.was in
    let form-line = line_value End "form=" (form c.args.n) _ _ _ _ c.field-2.ensures.answer (λ s x h. search rules) _ c.in_ok-form.was in
    let lab-line = line_value 0 "lab=" (mask 8 c.args.m) _ _ _ _ c.field-3.ensures.answer (λ s x h. search rules) _ c.in_ok-lab.was in
    let pos-line = line_value 0 "pos=" (mask 8 c.args.m) _ _ _ _ c.field-4.ensures.answer (λ s x h. search rules) _ c.in_ok-pos.was in
    handed_on entry_of _ _ _ _ (neg_stop _ _ _ _ _ _ name-line _ _ form-line _ _ lab-line _ _ pos-line _ _ (line_stop 0 "neg=" (mask 8 c.args.m) _ _ _ _ c.field-5.ensures.answer (λ s x h. search rules) _ c.in_err-neg.was)) c.from_residual-in_err-neg.ensures.1

pub returns-in_err-creates-clause-answer : goal.returns-in_err-creates-clause-answer
returns-in_err-creates-clause-answer c =
    let name-line = name_value _ _ _ _ _ c.field.ensures.answer (λ s x h. search rules) _ c.in_ok-name.was in
    let form-line = line_value End "form=" (form c.args.n) _ _ _ _ c.field-2.ensures.answer (λ s x h. search rules) _ c.in_ok-form.was in
    let lab-line = line_value 0 "lab=" (mask 8 c.args.m) _ _ _ _ c.field-3.ensures.answer (λ s x h. search rules) _ c.in_ok-lab.was in
    let pos-line = line_value 0 "pos=" (mask 8 c.args.m) _ _ _ _ c.field-4.ensures.answer (λ s x h. search rules) _ c.in_ok-pos.was in
    let neg-line = line_value 0 "neg=" (mask 8 c.args.m) _ _ _ _ c.field-5.ensures.answer (λ s x h. search rules) _ c.in_ok-neg.was in
    handed_on entry_of _ _ _ _ (creates_stop _ _ _ _ _ _ name-line _ _ form-line _ _ lab-line _ _ pos-line _ _ neg-line _ _ (line_stop 0 "creates=" (mask 8 c.args.m) _ _ _ _ c.field-6.ensures.answer (λ s x h. search rules) _ c.in_err-creates.was)) c.from_residual-in_err-creates.ensures.1

pub returns-in_err-risk-clause-answer : goal.returns-in_err-risk-clause-answer
returns-in_err-risk-clause-answer c =
    let name-line = name_value _ _ _ _ _ c.field.ensures.answer (λ s x h. search rules) _ c.in_ok-name.was in
    let form-line = line_value End "form=" (form c.args.n) _ _ _ _ c.field-2.ensures.answer (λ s x h. search rules) _ c.in_ok-form.was in
    let lab-line = line_value 0 "lab=" (mask 8 c.args.m) _ _ _ _ c.field-3.ensures.answer (λ s x h. search rules) _ c.in_ok-lab.was in
    let pos-line = line_value 0 "pos=" (mask 8 c.args.m) _ _ _ _ c.field-4.ensures.answer (λ s x h. search rules) _ c.in_ok-pos.was in
    let neg-line = line_value 0 "neg=" (mask 8 c.args.m) _ _ _ _ c.field-5.ensures.answer (λ s x h. search rules) _ c.in_ok-neg.was in
    let creates-line = line_value 0 "creates=" (mask 8 c.args.m) _ _ _ _ c.field-6.ensures.answer (λ s x h. search rules) _ c.in_ok-creates.was in
    handed_on entry_of _ _ _ _ (risk_stop _ _ _ _ _ _ name-line _ _ form-line _ _ lab-line _ _ pos-line _ _ neg-line _ _ creates-line _ _ (line_stop false "risk=" risk _ _ _ _ c.field-7.ensures.answer (λ s x h. search rules) _ c.in_err-risk.was)) c.from_residual-in_err-risk.ensures.1

pub returns-clause-answer : goal.returns-clause-answer
returns-clause-answer c =
    let name-line = name_value _ _ _ _ _ c.field.ensures.answer (λ s x h. search rules) _ c.in_ok-name.was in
    let form-line = line_value End "form=" (form c.args.n) _ _ _ _ c.field-2.ensures.answer (λ s x h. search rules) _ c.in_ok-form.was in
    let lab-line = line_value 0 "lab=" (mask 8 c.args.m) _ _ _ _ c.field-3.ensures.answer (λ s x h. search rules) _ c.in_ok-lab.was in
    let pos-line = line_value 0 "pos=" (mask 8 c.args.m) _ _ _ _ c.field-4.ensures.answer (λ s x h. search rules) _ c.in_ok-pos.was in
    let neg-line = line_value 0 "neg=" (mask 8 c.args.m) _ _ _ _ c.field-5.ensures.answer (λ s x h. search rules) _ c.in_ok-neg.was in
    let creates-line = line_value 0 "creates=" (mask 8 c.args.m) _ _ _ _ c.field-6.ensures.answer (λ s x h. search rules) _ c.in_ok-creates.was in
    let risk-line = line_value false "risk=" risk _ _ _ _ c.field-7.ensures.answer (λ s x h. search rules) _ c.in_ok-risk.was in
    read_on entry_of _ _ _ (entry_read _ _ _ _ _ _ name-line _ _ form-line _ _ lab-line _ _ pos-line _ _ neg-line _ _ creates-line _ _ risk-line)
