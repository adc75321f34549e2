-- The promise's secrecy: a Sink process that knows a different Source process wears, or might wear, the identifier of
-- rule 17, with the tag of the Source process. Either the plan keeps it from wearing it, or the two are kin, since they
-- are separated and the plan does not share the tag otherwise.
use Prim.Native.Nat.{ℕ, ◌<◌}
use mathlib.Core.Path.{◌≡◌, sym, ap, ◌∙◌}
use mathlib.Core.Logic.{◌≢◌, ◌⊎◌, inl, inr}
use mathlib.Core.Bool.{true, false, true≢false}
use Rattle.mask.specs.Mask.{has}
use Rattle.plan.specs.declared.Plan.{Plan}
use Rattle.plan.specs.declared.Assertion.{Assertion}
use Rattle.plan.specs.Plan.{creates}
use Rattle.plan.specs.Range.{InRange}
use Rattle.route.specs.Route.{SharedTag}
use Rattle.rules.specs.Rules.{Serves}
use Rattle.rules.specs.Judge.{wearable}
use Rattle.machine.proofs.Live.{Population}
use Rattle.promise.specs.History.{node, History, lineage, Kin}
use Rattle.promise.proofs.Lineage.{maker}
use Rattle.promise.proofs.Separation.{Separated, parted, over, under}
use Rattle.promise.proofs.Relations.{parted_shared, over_shared}
use Rattle.promise.proofs.Family.{Family, over_above}
use Rattle.promise.proofs.Guard.{secrecy_guard}
use Rattle.promise.proofs.Knowledge.{Guarded}

module _ (plan : Plan) (range : InRange plan) (a : Assertion) (t : ℕ) (below : t < plan.identifiers) (serves : Serves plan a t)
    (clear : has a.source a.declass ≡ false) where
  -- A Sink process that knows a different Source process is its kin.
  pub secret : (next : ℕ) (P : Population) (H : History) → Family plan next P H → Guarded plan (secrecy_guard plan range a t below serves clear) P H
      → (p q : ℕ) → (H p).template ≡ a.source → (H q).template ≡ a.sink → p ≢ q → (H q).knows p ≡ true → Kin H a.anc p q
  unfolding secrecy_guard
  secret next P H g f p q at_source at-sink differ knows = decide serves.shut
    where
      -- The tags of t are the same,
      same : maker (creates plan t) (lineage p (H p)) ≡ maker (creates plan t) (lineage q (H q))
      same = sym ((f.known q p knows).3 at_source).1.0

      -- and t may be worn at the Sink.
      worn : wearable plan (H q).template t ≡ true
      worn = ((f.known q p knows).3 at_source).1.1

      cases : Separated plan (lineage p (H p)) (lineage q (H q)) → SharedTag plan t (H p).template (H q).template a.anc ⊎ Kin H a.anc p q
      cases (parted c) = parted_shared plan (node p (H p).template) (node q (H q).template) (H p).above (H q).above c t a.anc same
      cases (over c) =
          over_shared plan (node p (H p).template) (node q (H q).template) (H p).above (H q).above t a.anc (g.route p (f.known q p knows).1).0 c same
      cases (under c) = absurd ((f.known q p knows).2 (over_above plan q p (H q) (H p) c))

      unshared : (SharedTag plan t a.source a.sink a.anc → ⊥)
          → SharedTag plan t (H p).template (H q).template a.anc ⊎ Kin H a.anc p q → Kin H a.anc p q
      unshared never (inl s) = absurd (never (rw (at_source, at-sink) at s))
      unshared never (inr kin) = kin

      decide : (wearable plan a.sink t ≡ false) ⊎ (SharedTag plan t a.source a.sink a.anc → ⊥) → Kin H a.anc p q
      decide (inl unworn) = absurd (true≢false (sym worn ∙ (ap (λ (X : ℕ). wearable plan X t) at-sink ∙ unworn)))
      decide (inr never) = unshared never (cases (g.apart p q (f.known q p knows).1 (f.known q p knows).0 differ))
