-- What the code's answer to a text says: document 01's number and line of a refused one, which hands back what is blank.
-- Believed: everything here, as the contracts of crates text, reader and policies name it.
use Rattle.std.specs.Prelude.{Result, Ok, Err}
use Rattle.plan.specs.declared.{Plan.{Plan}, Policy.{Policy}}
use Rattle.field.specs.Answers.{numbered}
use Rattle.text.specs.Reading.{Refusal, Reading, Complete, Refused, PlanRead, no_plan, PolicyRead, no_policy}
use Rattle.text.specs.declared.Refused.{Refused as RefusedLine}

abbrev pub refusal_of : RefusedLine → Refusal
refusal_of r = record { number = numbered r.refusal; line = r.line }

abbrev pub reading_of : {A : Type 0} → Result A RefusedLine → Reading
reading_of (Ok v) = Complete
reading_of (Err r) = Refused (refusal_of r)

abbrev pub plan_read : Result Plan RefusedLine → PlanRead
plan_read (Ok plan) = record { answer = Complete; plan = plan }
plan_read (Err r) = record { answer = Refused (refusal_of r); plan = no_plan }

abbrev pub policy_read : Result Policy RefusedLine → PolicyRead
policy_read (Ok policy) = record { answer = Complete; policy = policy }
policy_read (Err r) = record { answer = Refused (refusal_of r); policy = no_policy }
