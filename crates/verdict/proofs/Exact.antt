-- The judge over two texts, whatever they are: accepted exactly when both read and every rule holds, and broken exactly
-- when both read and the breach is the first broken rule. What reads is in range, so nothing is asked of the texts.
use Prim.Native.Nat.{ℕ}
use mathlib.Core.Path.{◌≡◌}
use mathlib.Core.Logic.{◌↔◌}
use mathlib.Core.List.{List}
use Rattle.reader.proofs.Range.{plan_in_range}
use Rattle.rules.specs.declared.Breach.{Breach}
use Rattle.rules.specs.declared.Verdict.TheVariants.{Accepted, Broken}
use Rattle.rules.specs.Judge.{judge}
use Rattle.rules.proofs.Exact.{judge_exactly, broken_first, judge_accepted, judge_broken}
use Rattle.verdict.specs.Meaning.{plan_of, policy_of, Acceptable, Breached}

module _ (plan_text policy_text : List ℕ) where
  acceptable : judge plan_text policy_text ≡ Accepted → Acceptable plan_text policy_text
  acceptable e =
      let r = (judge_accepted plan_text policy_text).0 e in
      record {
        plan_reads = r.0;
        policy_reads = r.1;
        rules = (judge_exactly (plan_of plan_text) (policy_of plan_text policy_text) (plan_in_range plan_text r.0)).0 r.2;
      }

  accepted : Acceptable plan_text policy_text → judge plan_text policy_text ≡ Accepted
  accepted r =
      let v = (judge_exactly (plan_of plan_text) (policy_of plan_text policy_text) (plan_in_range plan_text r.plan_reads)).1 r.rules in
      (judge_accepted plan_text policy_text).1 (r.plan_reads, r.policy_reads, v)

  pub accepted_exactly : (judge plan_text policy_text ≡ Accepted) ↔ Acceptable plan_text policy_text
  accepted_exactly = (acceptable, accepted)

  breached : (b : Breach) → judge plan_text policy_text ≡ Broken b → Breached plan_text policy_text b
  breached b e =
      let r = (judge_broken plan_text policy_text b).0 e in
      record {
        plan_reads = r.0;
        policy_reads = r.1;
        first = (broken_first (plan_of plan_text) (policy_of plan_text policy_text) (plan_in_range plan_text r.0) b).0 r.2;
      }

  broken : (b : Breach) → Breached plan_text policy_text b → judge plan_text policy_text ≡ Broken b
  broken b r =
      let v = (broken_first (plan_of plan_text) (policy_of plan_text policy_text) (plan_in_range plan_text r.plan_reads) b).1 r.first in
      (judge_broken plan_text policy_text b).1 (r.plan_reads, r.policy_reads, v)

  pub broken_exactly : (b : Breach) → (judge plan_text policy_text ≡ Broken b) ↔ Breached plan_text policy_text b
  broken_exactly b = (breached b, broken b)
