-- The judge: accepted exactly when every rule holds, and broken exactly with the first that does not. Where a text is
-- not read it is neither.
use Prim.Native.Nat.{ℕ}
use mathlib.Core.Path.{◌≡◌, refl, ap, subst, ◌∙◌}
use mathlib.Core.Logic.{◌↔◌, ⊎_elim}
use mathlib.Core.List.{List}
use Rattle.plan.specs.declared.Plan.{Plan}
use Rattle.plan.specs.declared.Policy.{Policy}
use Rattle.plan.specs.Range.{InRange}
use Rattle.text.specs.Reading.{Reading, Complete, Refused, read_plan, read_policy}
use Rattle.rules.specs.Rules.{EveryRule}
use Rattle.rules.specs.Judge.{Text, PlanText, PolicyText, Fault, Breach, Verdict, Accepted, Broken, Unread, check11, check_edges, check_assertions, judge_read, after_reading, judge}
use Rattle.rules.specs.Broken.{FirstBroken, broken11, on_edge, on_assertion}
use Rattle.rules.proofs.Walk.{decided_not, unread_accepted, unread_broken, or_accepted, or_both, or_broken, or_decided, or_first, or_later}
use Rattle.rules.proofs.Created.{rule11_of, rule11_to, broken11_of, of_broken11, decided11}
use Rattle.rules.proofs.Edges.{edges_rules, rules_edges, edges_broken, broken_edges, edges_decided}
use Rattle.rules.proofs.Assertions.{assertions_asked, asked_assertions, assertions_broken, broken_assertions, assertions_decided}

-- ---- over a plan and a policy that were read

-- It is never unread.
pub judge_decides : (plan : Plan) (policy : Policy) {f : Fault} → judge_read plan policy ≡ Unread f → ⊥
unfolding judge_read
judge_decides plan policy =
    decided_not _ (or_decided (check11 plan) _ (decided11 plan) (or_decided (check_edges plan) (check_assertions plan policy) (edges_decided plan) (assertions_decided plan policy)))

module _ (plan : Plan) (policy : Policy) (range : InRange plan) where
  every_rule : judge_read plan policy ≡ Accepted → EveryRule plan policy
  unfolding judge_read
  every_rule e =
      let a = or_accepted (check11 plan) _ e in
      let b = or_accepted (check_edges plan) (check_assertions plan policy) a.1 in
      record { rule11 = rule11_of plan a.0; edges = edges_rules plan b.0; assertions = assertions_asked plan policy range b.1 }

  accepted : EveryRule plan policy → judge_read plan policy ≡ Accepted
  unfolding judge_read
  accepted r =
      or_both (check11 plan) _ (rule11_to plan r.rule11)
      (or_both (check_edges plan) (check_assertions plan policy) (rules_edges plan r.edges) (asked_assertions plan policy range r.assertions))

  -- Accepted exactly when every rule holds.
  pub judge_exactly : (judge_read plan policy ≡ Accepted) ↔ EveryRule plan policy
  judge_exactly = (every_rule, accepted)

  first_of : (b : Breach) → judge_read plan policy ≡ Broken b → FirstBroken plan policy b
  unfolding judge_read
  first_of b e = ⊎_elim (λ h. let r = broken11_of plan b h in subst (FirstBroken plan policy) r.4 (broken11 r.3))
      (λ h₁. let once = rule11_of plan h₁.0 in
      ⊎_elim (λ h. let r = edges_broken plan b h in on_edge r.0 r.1 once r.2 r.3)
      (λ h₂. let s = assertions_broken plan policy range b h₂.1 in
      on_assertion s.place once (edges_rules plan h₂.0) s.inside s.earlier s.there)
      (or_broken (check_edges plan) (check_assertions plan policy) b h₁.1))
      (or_broken (check11 plan) _ b e)

  of_first : (b : Breach) → FirstBroken plan policy b → judge_read plan policy ≡ Broken b
  unfolding judge_read
  of_first b (broken11 {X} {Y} {t} c) = or_first (check11 plan) _ _ (of_broken11 plan X Y t c)
  of_first b (on_edge X Y once earlier k) =
      or_later (check11 plan) _ b (rule11_to plan once) (or_first (check_edges plan) (check_assertions plan policy) b (broken_edges plan X Y b earlier k))
  of_first b (on_assertion i once edges l earlier k) =
      or_later (check11 plan) _ b (rule11_to plan once)
      (or_later (check_edges plan) (check_assertions plan policy) b (rules_edges plan edges)
      (broken_assertions plan policy range b (record { place = i; inside = l; earlier = earlier; there = k })))

  -- Broken exactly with the first broken rule and its figures.
  pub broken_first : (b : Breach) → (judge_read plan policy ≡ Broken b) ↔ FirstBroken plan policy b
  broken_first b = (first_of b, of_first b)

-- ---- over the two texts

after_accepted : (text : Text) (r : Reading) (v : Verdict) → after_reading text r v ≡ Accepted → (r ≡ Complete) × (v ≡ Accepted)
unfolding after_reading
after_accepted text Complete v e = (refl, e)
after_accepted text (Refused r) v e = absurd (unread_accepted e)

after_broken : (text : Text) (r : Reading) (v : Verdict) (b : Breach) → after_reading text r v ≡ Broken b → (r ≡ Complete) × (v ≡ Broken b)
unfolding after_reading
after_broken text Complete v b e = (refl, e)
after_broken text (Refused r) v b e = absurd (unread_broken e)

after_complete : (text : Text) (r : Reading) (v : Verdict) → r ≡ Complete → after_reading text r v ≡ v
unfolding after_reading
after_complete text r v e = ap (λ (x : Reading). after_reading text x v) e

module _ (plan_text policy_text : List ℕ) where
  abbrev N : ℕ
  N = (read_plan plan_text).plan.count

  -- The verdict of what was read.
  abbrev pub verdict_of : Verdict
  verdict_of = judge_read (read_plan plan_text).plan (read_policy N policy_text).policy

  -- Both texts read, with that verdict.
  abbrev pub BothRead : Verdict → Type 0
  BothRead v = ((read_plan plan_text).answer ≡ Complete) × ((read_policy N policy_text).answer ≡ Complete) × (verdict_of ≡ v)

  accepted_read : judge plan_text policy_text ≡ Accepted → BothRead Accepted
  unfolding judge
  accepted_read e =
      let a = after_accepted PlanText (read_plan plan_text).answer _ e in
      let b = after_accepted PolicyText (read_policy N policy_text).answer verdict_of a.1 in
      (a.0, b.0, b.1)

  read_judged : (v : Verdict) → BothRead v → judge plan_text policy_text ≡ v
  unfolding judge
  read_judged v h =
      after_complete PlanText (read_plan plan_text).answer _ h.0 ∙ after_complete PolicyText (read_policy N policy_text).answer verdict_of h.1 ∙ h.2

  -- Accepted exactly when both texts read and what they say is accepted.
  pub judge_accepted : (judge plan_text policy_text ≡ Accepted) ↔ BothRead Accepted
  judge_accepted = (accepted_read, read_judged Accepted)

  broken_read : (b : Breach) → judge plan_text policy_text ≡ Broken b → BothRead (Broken b)
  unfolding judge
  broken_read b e =
      let a = after_broken PlanText (read_plan plan_text).answer _ b e in
      let c = after_broken PolicyText (read_policy N policy_text).answer verdict_of b a.1 in
      (a.0, c.0, c.1)

  -- And so for broken.
  pub judge_broken : (b : Breach) → (judge plan_text policy_text ≡ Broken b) ↔ BothRead (Broken b)
  judge_broken b = (broken_read b, read_judged (Broken b))
