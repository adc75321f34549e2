-- Rules 17 to 19: each check is accepted exactly when its rules hold, and where it is broken the rule that it names is
-- the first that fails.
use Prim.Native.Nat.{ℕ, ◌<◌}
use mathlib.Core.Path.{◌≡◌, refl, sym, ap, ap₂, subst, ◌∙◌}
use mathlib.Core.Bool.{Bool, true, false, not, cond, ◌&&◌, ◌||◌}
use mathlib.Core.Logic.{◌↔◌, ◌⊎◌, inl, inr, ⊎_elim}
use Rattle.lists.specs.Numbers.{every, any}
use Rattle.lists.proofs.Tests.{and_left, and_right, and_of, fails, passes_fails}
use Rattle.lists.proofs.Every.{every_at, every_of, any_from, any_to}
use Rattle.mask.specs.Mask.{has}
use Rattle.plan.specs.declared.Plan.{Plan}
use Rattle.plan.specs.declared.Kind.{Kind}
use Rattle.plan.specs.declared.Kind.TheVariants.{Secrecy, Prot}
use Rattle.plan.specs.declared.Assertion.{Assertion}
use Rattle.plan.specs.declared.Policy.{Policy}
use Rattle.plan.specs.Plan.{at, assertion_at}
use Rattle.plan.specs.Range.{InRange}
use Rattle.route.specs.Route.{SharedTag, SplitTag}
use Rattle.route.specs.Search.{shares_tag, splits_tag}
use Rattle.route.proofs.Exact.{shares_exactly, splits_exactly}
use Rattle.rules.specs.Rules.{Serves, Rule17, Rules18To19, Asked}
use Rattle.rules.specs.Judge.{Breach, Verdict, Accepted, Broken, serves, check_prot, check_assertion, check_assertions, wearable}
use Rattle.rules.specs.Broken.{breach, tested, EarlierIdentifiers, AssertionBroken, broken17, broken18, broken19}
use Rattle.rules.proofs.Walk.{Decided, broken_accepted, broken_same, below_each, below_all, below_stop, below_decided, below_broken}

or_not : (a b : Bool) → (a || not b) ≡ true → a ≡ false → b ≡ false
or_not true b e h = absurd (passes_fails true refl h)
or_not false true e h = sym e
or_not false false e h = refl

or_not_of : (a b : Bool) → (a ≡ false → b ≡ false) → (a || not b) ≡ true
or_not_of true b h = refl
or_not_of false b h = ap not (h refl)

nots : (a b : Bool) → (not a || not b) ≡ true → (a ≡ false) ⊎ (b ≡ false)
nots true b e = inr (or_not false b e refl)
nots false b e = inl refl

nots_of : (a b : Bool) → (a ≡ false) ⊎ (b ≡ false) → (not a || not b) ≡ true
nots_of true b h = ⊎_elim (λ e. absurd (passes_fails true refl e)) (λ e. ap not e) h
nots_of false b h = refl

-- A secrecy's verdict by its test,
secrecy_accepted : (c : Bool) (b : Breach) → cond c Accepted (Broken b) ≡ Accepted → c ≡ true
secrecy_accepted true b e = refl
secrecy_accepted false b e = absurd (broken_accepted e)

secrecy_broken : (c : Bool) (d b : Breach) → cond c Accepted (Broken d) ≡ Broken b → (c ≡ false) × (d ≡ b)
secrecy_broken true d b e = absurd (broken_accepted (sym e))
secrecy_broken false d b e = (refl, broken_same e)

secrecy_decided : (c : Bool) (b : Breach) → Decided (cond c Accepted (Broken b))
secrecy_decided true b = tt
secrecy_decided false b = tt

-- and a prot's at one identifier by its three tests.
module _ (place : ℕ) (a : Assertion) (t : ℕ) where
  tested_accepted : (l k s : Bool) → tested place a t l k s ≡ Accepted → l ≡ true → (k ≡ true) × (s ≡ false)
  tested_accepted true true true e h = absurd (broken_accepted e)
  tested_accepted true true false e h = (refl, refl)
  tested_accepted true false s e h = absurd (broken_accepted e)
  tested_accepted false k s e h = absurd (passes_fails false h refl)

  tested_of : (l k s : Bool) → (l ≡ true → (k ≡ true) × (s ≡ false)) → tested place a t l k s ≡ Accepted
  tested_of true k s h = ap (λ (x : Bool). tested place a t true x s) (h refl).0 ∙ ap (tested place a t true true) (h refl).1
  tested_of false k s h = refl

  tested_broken : (l k s : Bool) (b : Breach) → tested place a t l k s ≡ Broken b
      → (l ≡ true) × (((k ≡ false) × (breach 18 place a.sink t ≡ b)) ⊎ ((k ≡ true) × (s ≡ true) × (breach 19 place a.sink t ≡ b)))
  tested_broken true true true b e = (refl, inr (refl, refl, broken_same e))
  tested_broken true true false b e = absurd (broken_accepted (sym e))
  tested_broken true false s b e = (refl, inl (refl, broken_same e))
  tested_broken false k s b e = absurd (broken_accepted (sym e))

  tested_decided : (l k s : Bool) → Decided (tested place a t l k s)
  tested_decided true true true = tt
  tested_decided true true false = tt
  tested_decided true false s = tt
  tested_decided false k s = tt

module _ (plan : Plan) (range : InRange plan) (a : Assertion) where
  -- ---- 17

  module _ (t : ℕ) where
    abbrev lasts : ℕ → Bool
    lasts X = has X a.declass || not (has t (at plan X).neg)

    abbrev shared : Bool
    shared = shares_tag plan t a.source a.sink a.anc

    shared? : (shared ≡ true) ↔ SharedTag plan t a.source a.sink a.anc
    shared? = shares_exactly plan range t a.source a.sink a.anc

    abbrev worn? : Bool
    worn? = has t (at plan a.source).lab

    abbrev shut? : Bool
    shut? = not (wearable plan a.sink t) || not shared

    serves_of : serves plan a t ≡ true → Serves plan a t
    unfolding serves
    serves_of e =
        let rest = and_right worn? (every plan.count lasts && shut?) e in
        let each = every_at plan.count lasts (and_left (every plan.count lasts) shut? rest) in
        record {
          worn = and_left worn? (every plan.count lasts && shut?) e;
          lasting = λ X l d. or_not (has X a.declass) (has t (at plan X).neg) (each X l) d;
          shut = ⊎_elim inl (λ n. inr (λ s. passes_fails shared (shared?.1 s) n)) (nots (wearable plan a.sink t) shared (and_right (every plan.count lasts) shut? rest));
        }

    serves_to : Serves plan a t → serves plan a t ≡ true
    unfolding serves
    serves_to s =
        and_of worn? (every plan.count lasts && shut?) s.worn
        (and_of (every plan.count lasts) shut? (every_of plan.count lasts (λ X l. or_not_of (has X a.declass) (has t (at plan X).neg) (s.lasting X l)))
        (nots_of (wearable plan a.sink t) shared (⊎_elim inl (λ n. inr (fails shared (λ e. n (shared?.0 e)))) s.shut)))

  rule17_of : any plan.identifiers (serves plan a) ≡ true → Rule17 plan a
  rule17_of e = let r = any_from plan.identifiers (serves plan a) e in (r.0, r.1, serves_of r.0 r.2)

  rule17_to : Rule17 plan a → any plan.identifiers (serves plan a) ≡ true
  rule17_to r = any_to plan.identifiers (serves plan a) r.0 r.1 (serves_to r.0 r.2)

  -- ---- 18 and 19

  module _ (place t : ℕ) where
    abbrev split : Bool
    split = splits_tag plan t a.source a.sink a.anc

    split? : (split ≡ true) ↔ SplitTag plan t a.source a.sink a.anc
    split? = splits_exactly plan range t a.source a.sink a.anc

    checked : check_prot plan place a t ≡ tested place a t (has t (at plan a.source).lab) (has t (at plan a.sink).lab) split
    unfolding check_prot
    checked = refl

    prot_rules : check_prot plan place a t ≡ Accepted → has t (at plan a.source).lab ≡ true → Rules18To19 plan a t
    prot_rules e w =
        let r = tested_accepted place a t (has t (at plan a.source).lab) (has t (at plan a.sink).lab) split (sym checked ∙ e) w in
        record { rule18 = r.0; rule19 = λ s. passes_fails split (split?.1 s) r.1 }

    rules_prot : (has t (at plan a.source).lab ≡ true → Rules18To19 plan a t) → check_prot plan place a t ≡ Accepted
    rules_prot h =
        checked
        ∙ tested_of place a t (has t (at plan a.source).lab) (has t (at plan a.sink).lab) split (λ w. ((h w).rule18, fails split (λ e. (h w).rule19 (split?.0 e))))

    prot_broken : (b : Breach) → check_prot plan place a t ≡ Broken b → t < plan.identifiers
        → ((u : ℕ) → u < t → has u (at plan a.source).lab ≡ true → Rules18To19 plan a u) → AssertionBroken plan place a Prot b
    prot_broken b e l lower =
        let r = tested_broken place a t (has t (at plan a.source).lab) (has t (at plan a.sink).lab) split b (sym checked ∙ e) in
        let earlier : EarlierIdentifiers plan a t = record { identifier = l; worn = r.0; lower = lower } in
        ⊎_elim (λ h. subst (AssertionBroken plan place a Prot) h.1 (broken18 earlier h.0))
        (λ h. subst (AssertionBroken plan place a Prot) h.2 (broken19 earlier h.0 (split?.0 h.1))) r.1

  -- ---- one assertion

  module _ (place : ℕ) where
    pub assertion_asked : (kind : Kind) → check_assertion plan place a kind ≡ Accepted → Asked plan a kind
    unfolding check_assertion
    assertion_asked Secrecy e = rule17_of (secrecy_accepted (any plan.identifiers (serves plan a)) _ e)
    assertion_asked Prot e = λ t l. prot_rules place t (below_each plan.identifiers (check_prot plan place a) e t l)

    pub asked_assertion : (kind : Kind) → Asked plan a kind → check_assertion plan place a kind ≡ Accepted
    unfolding check_assertion
    asked_assertion Secrecy r = ap (λ (c : Bool). cond c Accepted (Broken (breach 17 place a.sink 255))) (rule17_to r)
    asked_assertion Prot r = below_all plan.identifiers (check_prot plan place a) (λ t l. rules_prot place t (r t l))

    pub assertion_broken : (kind : Kind) (b : Breach) → check_assertion plan place a kind ≡ Broken b → AssertionBroken plan place a kind b
    unfolding check_assertion
    assertion_broken Secrecy b e =
        let r = secrecy_broken (any plan.identifiers (serves plan a)) (breach 17 place a.sink 255) b e in
        subst (AssertionBroken plan place a Secrecy) r.1 (broken17 (λ h. passes_fails (any plan.identifiers (serves plan a)) (rule17_to h) r.0))
    assertion_broken Prot b e =
        let s = below_stop plan.identifiers (check_prot plan place a) b e in
        prot_broken place s.place b s.there s.inside (λ u l. prot_rules place u (s.earlier u l))

    lower_prot : (t : ℕ) → EarlierIdentifiers plan a t → (u : ℕ) → u < t → check_prot plan place a u ≡ Accepted
    lower_prot t e u l = rules_prot place u (e.lower u l)

    -- At t the source wears it, and the sink's label and the split are as given.
    prot_at : (t : ℕ) → EarlierIdentifiers plan a t → (k s : Bool) → has t (at plan a.sink).lab ≡ k → splits_tag plan t a.source a.sink a.anc ≡ s
        → check_prot plan place a t ≡ tested place a t true k s
    prot_at t e k s h q =
        checked place t
        ∙ ap (λ (x : Bool). tested place a t x (has t (at plan a.sink).lab) (splits_tag plan t a.source a.sink a.anc)) e.worn
        ∙ ap₂ (tested place a t true) h q

    pub broken_assertion : (kind : Kind) (b : Breach) → AssertionBroken plan place a kind b → check_assertion plan place a kind ≡ Broken b
    unfolding check_assertion
    broken_assertion kind b (broken17 unserved) =
        ap (λ (c : Bool). cond c Accepted (Broken (breach 17 place a.sink 255))) (fails (any plan.identifiers (serves plan a)) (λ e. unserved (rule17_of e)))
    broken_assertion kind b (broken18 {t} e k) =
        below_broken plan.identifiers (check_prot plan place a) t (breach 18 place a.sink t) e.identifier (lower_prot t e) (prot_at t e false _ k refl)
    broken_assertion kind b (broken19 {t} e k s) =
        below_broken plan.identifiers (check_prot plan place a) t (breach 19 place a.sink t) e.identifier (lower_prot t e)
        (prot_at t e true true k ((split? place t).1 s))

-- ---- all assertions

decided_one : (plan : Plan) (place : ℕ) (a : Assertion) (kind : Kind) → Decided (check_assertion plan place a kind)
unfolding check_assertion check_prot
decided_one plan place a Secrecy = secrecy_decided (any plan.identifiers (serves plan a)) _
decided_one plan place a Prot =
    below_decided plan.identifiers (check_prot plan place a)
    (λ t. tested_decided place a t (has t (at plan a.source).lab) (has t (at plan a.sink).lab) (splits_tag plan t a.source a.sink a.anc))

module _ (plan : Plan) (policy : Policy) where
  abbrev each : ℕ → Verdict
  each i = check_assertion plan i (assertion_at policy i) (assertion_at policy i).kind

  pub assertions_decided : Decided (check_assertions plan policy)
  unfolding check_assertions
  assertions_decided = below_decided policy.count each (λ i. decided_one plan i (assertion_at policy i) (assertion_at policy i).kind)

  module _ (range : InRange plan) where
    asked_at : (i : ℕ) → each i ≡ Accepted → Asked plan (assertion_at policy i) (assertion_at policy i).kind
    asked_at i e = assertion_asked plan range (assertion_at policy i) i (assertion_at policy i).kind e

    pub assertions_asked : check_assertions plan policy ≡ Accepted → (i : ℕ) → i < policy.count → Asked plan (assertion_at policy i) (assertion_at policy i).kind
    unfolding check_assertions
    assertions_asked e i l = asked_at i (below_each policy.count each e i l)

    pub asked_assertions : ((i : ℕ) → i < policy.count → Asked plan (assertion_at policy i) (assertion_at policy i).kind) → check_assertions plan policy ≡ Accepted
    unfolding check_assertions
    asked_assertions r = below_all policy.count each (λ i l. asked_assertion plan range (assertion_at policy i) i (assertion_at policy i).kind (r i l))

    -- Where an assertion is broken those before it ask nothing that fails.
    pub record StopAt (b : Breach) : Type 0 where
      pub place : ℕ
      pub inside : place < policy.count
      pub earlier : (j : ℕ) → j < place → Asked plan (assertion_at policy j) (assertion_at policy j).kind
      pub there : AssertionBroken plan place (assertion_at policy place) (assertion_at policy place).kind b

    pub assertions_broken : (b : Breach) → check_assertions plan policy ≡ Broken b → StopAt b
    unfolding check_assertions
    assertions_broken b e =
        let s = below_stop policy.count each b e in
        let i = s.place in
        record {
          place = i;
          inside = s.inside;
          earlier = λ j l. asked_at j (s.earlier j l);
          there = assertion_broken plan range (assertion_at policy i) i (assertion_at policy i).kind b s.there;
        }

    pub broken_assertions : (b : Breach) → StopAt b → check_assertions plan policy ≡ Broken b
    unfolding check_assertions
    broken_assertions b s =
        below_broken policy.count each s.place b s.inside
        (λ j l. asked_assertion plan range (assertion_at policy j) j (assertion_at policy j).kind (s.earlier j l))
        (broken_assertion plan range (assertion_at policy s.place) s.place (assertion_at policy s.place).kind b s.there)
