-- One assertion by its kind, over the plan's layout and labels: what was found is what Judge.antt asks. And the loop over
-- all assertions.
use Prim.Native.Nat.{ℕ, ◌+◌, ◌≤◌, ◌<◌, min}
use mathlib.Core.Path.{◌≡◌, refl, sym, ap, subst, ◌∙◌, fun_ext}
use mathlib.Core.Bool.{Bool, true, false, not, cond, ◌&&◌, ◌||◌, and_assoc, or-false}
use mathlib.Core.Logic.{◌⊎◌, inl, inr}
use native.Mathlib.Omega.{arith}
use lib.Bits.{bit_or}
use lib.ListN.{length}
use Rattle.std.specs.Prelude.{Result, Ok, Err, IsErrAnd}
use Rattle.lists.specs.Numbers.{every, any}
use Rattle.lists.proofs.Tests.{lt_or_le}
use Rattle.mask.specs.Mask.{has}
use Rattle.mask.proofs.Items.{has_or}
use Rattle.plan.specs.declared.Template.{Template}
use Rattle.plan.specs.declared.Plan.{Plan}
use Rattle.plan.specs.declared.Kind.TheVariants.{Secrecy, Prot}
use Rattle.plan.specs.declared.Assertion.{Assertion}
use Rattle.plan.specs.declared.Policy.{Policy}
use Rattle.plan.specs.Plan.{blank_assertion, at, assertion_at}
use Rattle.plan.proofs.Places.{assertion_past}
use Rattle.route.specs.Search.{shares_tag, splits_tag}
use Rattle.route.specs.declared.Layout.{Layout}
use Rattle.layout.specs.Layout.{layout_of}
use Rattle.layout.proofs.Answers.{shares_laid, splits_laid}
use Rattle.rules.specs.declared.Breach.{Breach}
use Rattle.rules.specs.declared.Verdict.{Verdict}
use Rattle.rules.specs.declared.Verdict.TheVariants.{Accepted}
use Rattle.rules.specs.Judge.{broken, first_below, serves, check_prot, check_assertion, check_assertions, wearable}
use Rattle.rules.specs.Broken.{answered}
use Rattle.rules.proofs.Walk.{broken_accepted, below_none, below_more, below_breaks, below_end, below_alike}
use Rattle.secrecy.specs.Lent.{keeps, wearables, joined, serves_by}
use Rattle.prot.specs.declared.Labels.{Labels}
use Rattle.prot.specs.Lent.{parted, prot_by}

-- ---- one assertion

-- The mask says what the test says.
wearables_are : (plan : Plan) (X t : ℕ) → has t (wearables (at plan X)) ≡ wearable plan X t
unfolding wearables wearable
wearables_are plan X t = go (at plan X).risk
  where
    go : (b : Bool) → has t (cond b (bit_or (at plan X).lab (at plan X).pos) (at plan X).lab) ≡ (has t (at plan X).lab || (b && has t (at plan X).pos))
    go true = has_or t (at plan X).lab (at plan X).pos
    go false = sym (or-false (has t (at plan X).lab))

module _ (plan : Plan) (place : ℕ) (a : Assertion) (l : Layout) (laid : l ≡ layout_of plan)
    (source sink : Template) (e : source ≡ at plan a.source) (h : sink ≡ at plan a.sink) where
  abbrev J : ℕ → Bool
  J = joined l a

  joined_is : (t : ℕ) → J t ≡ shares_tag plan t a.source a.sink a.anc
  unfolding joined
  joined_is t = shares_laid plan _ laid t a.source a.sink a.anc

  parted_is : (t : ℕ) → parted l a t ≡ splits_tag plan t a.source a.sink a.anc
  unfolding parted
  parted_is t = splits_laid plan _ laid t a.source a.sink a.anc

  module _ (kind : a.kind ≡ Secrecy) (kept risked : ℕ)
      (lasts : (t : ℕ) → has t kept ≡ (has t source.lab && every plan.count (keeps plan a.declass t)))
      (worn : risked ≡ wearables sink) where
    serves_is : (t : ℕ) → serves_by kept risked J t ≡ serves plan a t
    unfolding serves_by serves keeps
    serves_is t =
        (λ i. (lasts t ∙ ap (λ (X : Template). has t X.lab && every plan.count (keeps plan a.declass t)) e) i
        && (not ((ap (has t) (worn ∙ ap wearables h) ∙ wearables_are plan a.sink t) i) || not (joined_is t i)))
        ∙ and_assoc (has t (at plan a.source).lab) (every plan.count (keeps plan a.declass t))
        (not (wearable plan a.sink t) || not (shares_tag plan t a.source a.sink a.anc))

    pub secrecy_kind : (b : Bool) → b ≡ any plan.identifiers (serves_by kept risked (joined l a))
        → (v : Verdict) → v ≡ cond b Accepted (broken 17 place a.sink 255) → v ≡ check_assertion plan place a a.kind
    unfolding check_assertion
    secrecy_kind b q v r =
        r ∙ ap (λ (c : Bool). cond c Accepted (broken 17 place a.sink 255)) (q ∙ ap (any plan.identifiers) (fun_ext serves_is))
        ∙ sym (ap (check_assertion plan place a) kind)

  abbrev labels : Template → Template → Labels
  labels S K = record { limit = plan.identifiers; source = S.lab; sink = K.lab }

  pub prot_kind : a.kind ≡ Prot → (v : Verdict)
      → v ≡ first_below plan.identifiers (prot_by (record { limit = plan.identifiers; source = source.lab; sink = sink.lab }) place a (parted l a))
      → v ≡ check_assertion plan place a a.kind
  unfolding check_assertion check_prot prot_by
  prot_kind k v q =
      q ∙ (λ i. first_below plan.identifiers (prot_by (labels (e i) (h i)) place a (fun_ext parted_is i))) ∙ sym (ap (check_assertion plan place a) k)

-- ---- all assertions

module _ (plan : Plan) (policy : Policy) where
  abbrev each : ℕ → Verdict
  each i = check_assertion plan i (assertion_at policy i) (assertion_at policy i).kind

  -- What the loop keeps: the first i are accepted. That the row has its length is known once an assertion was read.
  pub record AllSoFar (i : ℕ) : Type 0 where
    pub so_far : first_below i each ≡ Accepted
    pub row : 0 < i → length policy.assertions ≡ 32

  pub all_start : AllSoFar 0
  all_start = record { so_far = below_none each; row = λ h. omega arith }

  module _ (i : ℕ) (s : AllSoFar i) (a : Assertion) (g : a ≡ assertion_at policy i) (r : Result (Unit {0}) Breach)
      (e : answered r ≡ check_assertion plan i a a.kind) where
    here : answered r ≡ each i
    here = e ∙ ap (λ (x : Assertion). check_assertion plan i x x.kind) g

    pub all_more : length policy.assertions ≡ 32 → (u : Unit {0}) → r ≡ Ok u → AllSoFar (i + 1)
    all_more full u q = record { so_far = below_more i each s.so_far (sym here ∙ ap answered q); row = λ h. full }

    pub all_stop : i < policy.count → (d : Breach) → r ≡ Err d → (t : Result (Unit {0}) Breach) → IsErrAnd t (λ x. x ≡ d) → answered t ≡ check_assertions plan policy
    unfolding check_assertions
    all_stop l d q t k = below_breaks policy.count each i l s.so_far r d here q t k

  blank_alike : (i j : ℕ) → check_assertion plan i blank_assertion Secrecy ≡ Accepted → check_assertion plan j blank_assertion Secrecy ≡ Accepted
  unfolding check_assertion
  blank_alike i j e = go (any plan.identifiers (serves plan blank_assertion)) e
    where
      go : (b : Bool) → cond b Accepted (broken 17 i 0 255) ≡ Accepted → cond b Accepted (broken 17 j 0 255) ≡ Accepted
      go true e = refl
      go false e = absurd (broken_accepted e)

  module _ (full : length policy.assertions ≡ 32) where
    blank_at : (i : ℕ) → 32 ≤ i → each i ≡ check_assertion plan i blank_assertion Secrecy
    blank_at i h = ap (λ (a : Assertion). check_assertion plan i a a.kind) (assertion_past policy full i h)

    alike : each 32 ≡ Accepted → (i : ℕ) → 32 ≤ i → each i ≡ Accepted
    alike e i h = blank_at i h ∙ blank_alike 32 i (sym (blank_at 32 (omega arith)) ∙ e)

  -- Past the places the first of them was asked, if any.
  pub all_end : (i n : ℕ) → AllSoFar i → n ≡ min policy.count 33 → i ≤ n → n ≤ i → Accepted ≡ check_assertions plan policy
  unfolding check_assertions
  all_end i n s q l h = whole (lt_or_le 0 i)
    where
      all_asked : first_below (min policy.count 33) each ≡ Accepted
      all_asked = let k : i ≡ min policy.count 33 = omega arith in subst (λ (m : ℕ). first_below m each ≡ Accepted) k s.so_far

      whole : (0 < i) ⊎ (i ≤ 0) → Accepted ≡ first_below policy.count each
      whole (inl some) = sym (below_alike policy.count 32 each (alike (s.row some)) all_asked)
      whole (inr none) = below_end policy.count each i (omega arith) (omega arith) s.so_far
