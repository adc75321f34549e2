-- Before call i the arrays are what the first i calls led through, and the first i answers are the machine's own.
use mathlib.Core.Path.{refl, ◌∙◌}
use borrow.Author.Rules.{rules}
use Rattle.running.proofs.Runs.{stands_none, stands_on, played, call_of_three}
use Rattle.running.proofs.run_calls.Goals as goal

pub loop-i-init : goal.loop-i-init
loop-i-init c = stands_none _ _ _ _ _

pub loop-i-preserved : goal.loop-i-preserved
loop-i-preserved c = let chunks = c.as_chunks.ensures in
    let call = c.from-call.ensures ∙ call_of_three _ _ _ _ chunks.front (search rules) (search rules) _ refl in
    let did = rw call at c.run_call-answer.ensures in
    stands_on _ _ _ _ _ _ _ _ _ _ _ _ _ c.loop-i.invariant (search rules) (search rules) did c.from.ensures

pub returns : goal.returns
returns c = played _ _ _ _ _ _ _ _ (rw c.as_chunks.ensures.front_len at c.min-n.ensures) c.loop-i.invariant (search rules)
