-- The length first, then the lines, then that nothing follows.
use Rattle.std.proofs.Common.{rules}
use Rattle.field.specs.Fields.{number}
use Rattle.text.proofs.Opening.{line_value, line_stop}
use Rattle.policies.proofs.Closing.{policy_long, count_stop, most_assertions, assertions_stop, policy_end, policy_whole}
use Rattle.policies.proofs.read_policy.Goals as goal

pub returns-in_err-lines : goal.returns-in_err-lines
returns-in_err-lines c = policy_long _ _ _ c.new.ensures _ c.in_err-lines.was _ c.from_residual.ensures.1

pub returns-in_err-k : goal.returns-in_err-k
returns-in_err-k c =
    let k-line = line_stop 0 "assertions=" (number 3 0 33) _ _ _ _ c.field.ensures.answer (λ s x h. search rules) _ c.in_err-k.was in
    count_stop _ _ _ c.new.ensures _ c.in_ok-lines.was _ k-line _ c.from_residual-in_err-k.ensures.1

pub read_assertions-requires : goal.read_assertions-requires
read_assertions-requires c =
    let k-line = line_value 0 "assertions=" (number 3 0 33) _ _ _ _ c.field.ensures.answer (λ s x h. search rules) _ c.in_ok-k.was in
    most_assertions c.args.n _ _ c.new.ensures _ c.in_ok-lines.was _ _ _ k-line

pub returns-in_err-assertions : goal.returns-in_err-assertions
returns-in_err-assertions c =
    let k-line = line_value 0 "assertions=" (number 3 0 33) _ _ _ _ c.field.ensures.answer (λ s x h. search rules) _ c.in_ok-k.was in
    assertions_stop _ _ _ c.new.ensures _ c.in_ok-lines.was _ _ _ k-line _ _ c.read_assertions.ensures _ c.in_err-assertions.was _ c.from_residual-in_err-assertions.ensures.1

pub returns-in_err-finish : goal.returns-in_err-finish
returns-in_err-finish c =
    let k-line = line_value 0 "assertions=" (number 3 0 33) _ _ _ _ c.field.ensures.answer (λ s x h. search rules) _ c.in_ok-k.was in
    policy_end _ _ _ c.new.ensures _ c.in_ok-lines.was _ _ _ k-line _ _ c.read_assertions.ensures _ c.in_ok-assertions.was _ c.finish.ensures _ c.in_err-finish.was _ c.from_residual-in_err-finish.ensures.1

pub returns : goal.returns
returns c =
    let k-line = line_value 0 "assertions=" (number 3 0 33) _ _ _ _ c.field.ensures.answer (λ s x h. search rules) _ c.in_ok-k.was in
    policy_whole _ _ _ c.new.ensures _ c.in_ok-lines.was _ _ _ k-line _ _ c.read_assertions.ensures _ c.in_ok-assertions.was _ c.finish.ensures _ c.in_ok-finish.was
