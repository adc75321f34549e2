-- By where the reading ends; that a line without a blank, or with another word, is no call's the check finds alone.
use Rattle.std.proofs.Common.{sym, refl, ◌∙◌}
use Rattle.callline.proofs.Reading.{nothing_read, not_utf8, one_blank, no_first, no_second, line_read, text_none, text_some}
use Rattle.callline.proofs.read_line.Goals as goal

pub returns-in_err-line : goal.returns-in_err-line
returns-in_err-line c =
    let h = text_none c.from_utf8.result _ _ _ c.from_utf8.ensures.cases (sym c.ok.ensures.value ∙ c.in_err-line.was) in
    nothing_read _ _ _ refl c.from_residual.ensures (not_utf8 c.args.s.now h)

pub returns-in_err-first : goal.returns-in_err-first
returns-in_err-first c =
    let text = text_some c.from_utf8.result c.args.s.now _ _ c.in_ok-line.line c.from_utf8.ensures.cases c.in_ok-line.ensures.value in
    nothing_read _ c.in_ok-line.line.now _ text c.from_residual-in_err-first.ensures (one_blank c.in_ok-line.line.now (c.in_ok-word.word, c.in_ok-word.numbers) c.in_ok-word.ensures.cases c.in_err-first.ensures.cases)

pub returns-in_err-x : goal.returns-in_err-x
returns-in_err-x c =
    let text = text_some c.from_utf8.result c.args.s.now _ _ c.in_ok-line.line c.from_utf8.ensures.cases c.in_ok-line.ensures.value in
    nothing_read _ c.in_ok-line.line.now _ text c.from_residual-in_err-x.ensures (no_first c.in_ok-line.line.now (c.in_ok-word.word, c.in_ok-word.numbers) c.in_ok-word.ensures.cases (c.in_ok-first.first, c.in_ok-first.second) c.in_ok-first.ensures.cases c.in_err-x.ensures)

pub returns-in_err-y : goal.returns-in_err-y
returns-in_err-y c =
    let text = text_some c.from_utf8.result c.args.s.now _ _ c.in_ok-line.line c.from_utf8.ensures.cases c.in_ok-line.ensures.value in
    nothing_read _ c.in_ok-line.line.now _ text c.from_residual-in_err-y.ensures (no_second c.in_ok-line.line.now (c.in_ok-word.word, c.in_ok-word.numbers) c.in_ok-word.ensures.cases (c.in_ok-first.first, c.in_ok-first.second) c.in_ok-first.ensures.cases c.in_err-y.ensures)

pub returns-in-step : goal.returns-in-step
returns-in-step c =
    let text = text_some c.from_utf8.result c.args.s.now _ _ c.in_ok-line.line c.from_utf8.ensures.cases c.in_ok-line.ensures.value in
    sym text ∙ line_read c.in_ok-line.line.now (c.in_ok-word.word, c.in_ok-word.numbers) c.in_ok-word.ensures.cases (c.in_ok-first.first, c.in_ok-first.second) c.in_ok-first.ensures.cases _ _ _ c.in-step.is c.in_ok-x.ensures c.in_ok-y.ensures

pub returns-in-send : goal.returns-in-send
returns-in-send c =
    let text = text_some c.from_utf8.result c.args.s.now _ _ c.in_ok-line.line c.from_utf8.ensures.cases c.in_ok-line.ensures.value in
    sym text ∙ line_read c.in_ok-line.line.now (c.in_ok-word.word, c.in_ok-word.numbers) c.in_ok-word.ensures.cases (c.in_ok-first.first, c.in_ok-first.second) c.in_ok-first.ensures.cases _ _ _ c.in-send.is c.in_ok-x.ensures c.in_ok-y.ensures

pub returns-in-raise : goal.returns-in-raise
returns-in-raise c =
    let text = text_some c.from_utf8.result c.args.s.now _ _ c.in_ok-line.line c.from_utf8.ensures.cases c.in_ok-line.ensures.value in
    sym text ∙ line_read c.in_ok-line.line.now (c.in_ok-word.word, c.in_ok-word.numbers) c.in_ok-word.ensures.cases (c.in_ok-first.first, c.in_ok-first.second) c.in_ok-first.ensures.cases _ _ _ c.in-raise.is c.in_ok-x.ensures c.in_ok-y.ensures

pub returns-in-lower : goal.returns-in-lower
returns-in-lower c =
    let text = text_some c.from_utf8.result c.args.s.now _ _ c.in_ok-line.line c.from_utf8.ensures.cases c.in_ok-line.ensures.value in
    sym text ∙ line_read c.in_ok-line.line.now (c.in_ok-word.word, c.in_ok-word.numbers) c.in_ok-word.ensures.cases (c.in_ok-first.first, c.in_ok-first.second) c.in_ok-first.ensures.cases _ _ _ c.in-lower.is c.in_ok-x.ensures c.in_ok-y.ensures
