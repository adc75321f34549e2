-- By the text.
use Rattle.report.proofs.Printed.{plan_named, policy_named}
use Rattle.report.proofs.append_text.Goals as goal

pub returns-in-Plan : goal.returns-in-Plan
returns-in-Plan c = let p = plan_named _ _ _ _ _ c.in-Plan.is c.append.ensures in record { appends = p.0; room = p.1 }

pub returns-in-Policy : goal.returns-in-Policy
returns-in-Policy c = let p = policy_named _ _ _ _ _ c.in-Policy.is c.append-in-Policy.ensures in record { appends = p.0; room = p.1 }
