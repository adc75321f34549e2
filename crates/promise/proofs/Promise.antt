-- The whole promise, secrecy, delivery and unhindered steps, after every list of calls: for every plan and policy in range
-- of which every rule holds, and so of two texts that the judge accepts, since what they say is in range (crates reader and
-- policies) and keeps every rule (crate verdict).
use mathlib.Core.Path.{◌≡◌, refl, subst}
use mathlib.Core.List.{List}
use mathlib.Core.Bool.{true}
use Rattle.plan.specs.declared.{Plan.{Plan}, Kind.{Kind}, Policy.{Policy}}
use Rattle.plan.specs.Plan.{assertion_at}
use Rattle.plan.specs.Range.{InRange, Clear, PolicyInRange}
use Rattle.text.specs.Reading.{read_plan, read_policy}
use Rattle.reader.proofs.Range.{plan_in_range}
use Rattle.policies.proofs.PolicyRange.{policy_in_range}
use Rattle.rules.specs.Rules.{Asked, EveryRule}
use Rattle.verdict.proofs.Exact.{accepted_exactly}
use Rattle.machine.specs.Machine.{Limits, box_limits, Call}
use Rattle.machine.proofs.Templates.{range_fits}
use Rattle.machine.proofs.WellFormed.{Sensible, box_limits_lem, start_formed}
use Rattle.promise.specs.Promise.{Promised, BoxPromise}
use Rattle.promise.proofs.Always.{secret_always, delivers_always, unhindered_always}

-- The promise for every plan and policy in range of which every rule holds, under any sensible limits that allow the start.
pub promised : (limits : Limits) → Sensible limits → limits.processes 1 ≡ true → limits.serials 1 ≡ true
    → (plan : Plan) → InRange plan → (policy : Policy) → PolicyInRange plan.count policy → EveryRule plan policy
    → (calls : List Call) → Promised limits plan policy calls
promised limits fewer process serial plan range policy in_range rules calls = record {
  secrecy = λ i h kind.
      let a = assertion_at policy i in
      let rule17 = subst (λ (k : Kind). Asked plan a k) kind (rules.assertions i h) in
      let clear = subst (λ (k : Kind). Clear k a.source a.sink a.declass) kind (in_range.each i h).clear in
      secret_always plan range a rule17.0 rule17.1 rule17.2 clear.0 limits calls;
  prot = λ i h kind.
      let a = assertion_at policy i in
      let rules18-19 = subst (λ (k : Kind). Asked plan a k) kind (rules.assertions i h) in
      delivers_always plan a rules18-19 limits fewer (start_formed limits process serial plan (range_fits plan range)) a.declass calls;
  steps = unhindered_always plan range policy rules limits 0 calls;
}

-- The box promise as it is stated.
pub box_promise : BoxPromise
box_promise plan_text policy_text accepted calls =
    let a = (accepted_exactly plan_text policy_text).0 accepted in
    let plan = (read_plan plan_text).plan in
    promised box_limits box_limits_lem refl refl plan (plan_in_range plan_text a.plan_reads)
    (read_policy plan.count policy_text).policy (policy_in_range plan.count policy_text a.policy_reads) a.rules calls
