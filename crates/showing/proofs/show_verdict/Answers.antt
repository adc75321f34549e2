-- The bytes between the numbers, of the text that they name, where they stand in it.
use Rattle.showing.proofs.Parts.{bytes-plan, bytes-policy, lies_plan, lies_policy}
use Rattle.showing.proofs.show_verdict.Goals as goal

pub returns-in-Plan : goal.returns-in-Plan
returns-in-Plan c = record { result_value = search bytes-plan; place = search lies_plan }

pub returns-in-Policy : goal.returns-in-Policy
returns-in-Policy c = record { result_value = search bytes-policy; place = search lies_policy }
