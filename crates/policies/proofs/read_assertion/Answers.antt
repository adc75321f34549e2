-- One line after the other: those before it were read, and the next is refused or read.
use Rattle.std.proofs.Common.{rules}
use Rattle.plan.specs.declared.Kind.TheVariants.{Secrecy}
use Rattle.field.specs.Fields.{number, kind, declass}
use Rattle.text.proofs.Opening.{line_value, line_stop, handed_on, read_on}
use Rattle.policies.proofs.Gathered.{kind_stop, source_stop, sink_stop, anc_stop, declass_stop, assertion_read}
use Rattle.policies.proofs.read_assertion.Goals as goal

pub returns-in_err-kind : goal.returns-in_err-kind
returns-in_err-kind c =
    handed_on (λ a. a) _ _ _ _ (kind_stop _ _ _ _ (line_stop Secrecy "kind=" kind _ _ _ _ c.field.ensures.answer (λ s x h. search rules) _ c.in_err-kind.was)) c.from_residual.ensures.1

pub returns-in_err-source : goal.returns-in_err-source
returns-in_err-source c =
    let kind-line = line_value Secrecy "kind=" kind _ _ _ _ c.field.ensures.answer (λ s x h. search rules) _ c.in_ok-kind.was in
    handed_on (λ a. a) _ _ _ _ (source_stop _ _ _ _ kind-line _ _ (line_stop 0 "source=" (number 3 0 c.args.n) _ _ _ _ c.field-2.ensures.answer (λ s x h. search rules) _ c.in_err-source.was)) c.from_residual-in_err-source.ensures.1

pub returns-in_err-sink : goal.returns-in_err-sink
returns-in_err-sink c =
    let kind-line = line_value Secrecy "kind=" kind _ _ _ _ c.field.ensures.answer (λ s x h. search rules) _ c.in_ok-kind.was in
    let source-line = line_value 0 "source=" (number 3 0 c.args.n) _ _ _ _ c.field-2.ensures.answer (λ s x h. search rules) _ c.in_ok-source.was in
    handed_on (λ a. a) _ _ _ _ (sink_stop _ _ _ _ kind-line _ _ source-line _ _ (line_stop 0 "sink=" (number 3 0 c.args.n) _ _ _ _ c.field-3.ensures.answer (λ s x h. search rules) _ c.in_err-sink.was)) c.from_residual-in_err-sink.ensures.1

pub returns-in_err-anc : goal.returns-in_err-anc
returns-in_err-anc c =
    let kind-line = line_value Secrecy "kind=" kind _ _ _ _ c.field.ensures.answer (λ s x h. search rules) _ c.in_ok-kind.was in
    let source-line = line_value 0 "source=" (number 3 0 c.args.n) _ _ _ _ c.field-2.ensures.answer (λ s x h. search rules) _ c.in_ok-source.was in
    let sink-line = line_value 0 "sink=" (number 3 0 c.args.n) _ _ _ _ c.field-3.ensures.answer (λ s x h. search rules) _ c.in_ok-sink.was in
    handed_on (λ a. a) _ _ _ _ (anc_stop _ _ _ _ kind-line _ _ source-line _ _ sink-line _ _ (line_stop 0 "anc=" (number 3 0 c.args.n) _ _ _ _ c.field-4.ensures.answer (λ s x h. search rules) _ c.in_err-anc.was)) c.from_residual-in_err-anc.ensures.1

pub returns-in_err-declass : goal.returns-in_err-declass
returns-in_err-declass c =
    let kind-line = line_value Secrecy "kind=" kind _ _ _ _ c.field.ensures.answer (λ s x h. search rules) _ c.in_ok-kind.was in
    let source-line = line_value 0 "source=" (number 3 0 c.args.n) _ _ _ _ c.field-2.ensures.answer (λ s x h. search rules) _ c.in_ok-source.was in
    let sink-line = line_value 0 "sink=" (number 3 0 c.args.n) _ _ _ _ c.field-3.ensures.answer (λ s x h. search rules) _ c.in_ok-sink.was in
    let anc-line = line_value 0 "anc=" (number 3 0 c.args.n) _ _ _ _ c.field-4.ensures.answer (λ s x h. search rules) _ c.in_ok-anc.was in
    handed_on (λ a. a) _ _ _ _ (declass_stop _ _ _ _ kind-line _ _ source-line _ _ sink-line _ _ anc-line _ _ (line_stop 0 "declass=" (declass c.args.n c.in_ok-kind.kind c.in_ok-source.source c.in_ok-sink.sink) _ _ _ _ c.field-5.ensures.answer (λ s x h. search rules) _ c.in_err-declass.was)) c.from_residual-in_err-declass.ensures.1

pub returns : goal.returns
returns c =
    let kind-line = line_value Secrecy "kind=" kind _ _ _ _ c.field.ensures.answer (λ s x h. search rules) _ c.in_ok-kind.was in
    let source-line = line_value 0 "source=" (number 3 0 c.args.n) _ _ _ _ c.field-2.ensures.answer (λ s x h. search rules) _ c.in_ok-source.was in
    let sink-line = line_value 0 "sink=" (number 3 0 c.args.n) _ _ _ _ c.field-3.ensures.answer (λ s x h. search rules) _ c.in_ok-sink.was in
    let anc-line = line_value 0 "anc=" (number 3 0 c.args.n) _ _ _ _ c.field-4.ensures.answer (λ s x h. search rules) _ c.in_ok-anc.was in
    let declass-line = line_value 0 "declass=" (declass c.args.n c.in_ok-kind.kind c.in_ok-source.source c.in_ok-sink.sink) _ _ _ _ c.field-5.ensures.answer (λ s x h. search rules) _ c.in_ok-declass.was in
    read_on (λ a. a) _ _ _ (assertion_read _ _ _ _ kind-line _ _ source-line _ _ sink-line _ _ anc-line _ _ declass-line)
