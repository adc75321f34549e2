-- The promise's delivery: a live Source process and its live kin at Sink, neither with a moved label, part at a fork,
-- since neither is above the other. By rule 18 the labels agree and by rule 19 the tags do, so nothing holds the send.
use Prim.Native.Nat.{ℕ, ◌<◌}
use mathlib.Core.Path.{◌≡◌, sym, ◌∙◌}
use mathlib.Core.Logic.{◌≢◌, ◌⊎◌, inl, inr}
use mathlib.Core.Option.{some}
use mathlib.Core.Bool.{true, false}
use Rattle.mask.specs.Mask.{has}
use Rattle.plan.specs.declared.Plan.{Plan}
use Rattle.plan.specs.declared.Assertion.{Assertion}
use Rattle.plan.specs.Plan.{at, creates}
use Rattle.route.specs.Route.{SplitTag}
use Rattle.rules.specs.Rules.{Rules18To19}
use Rattle.machine.specs.Machine.{Process, tag}
use Rattle.machine.proofs.Sending.{worn, Passing}
use Rattle.machine.proofs.Live.{Population}
use Rattle.promise.specs.History.{node, History, lineage, Kin}
use Rattle.promise.proofs.Lineage.{maker}
use Rattle.promise.proofs.Separation.{Separated, parted, over, under}
use Rattle.promise.proofs.Relations.{parted-split}
use Rattle.promise.proofs.Family.{Fits, Family, over_above}

-- Rules 18 and 19 hold of the assertion.
module _ (plan : Plan) (a : Assertion)
    (asked : (t : ℕ) → t < plan.identifiers → has t (at plan a.source).lab ≡ true → Rules18To19 plan a t) where
  -- What a Source process sends passes to its kin at Sink.
  pub passing : (next : ℕ) (P : Population) (H : History) → Family plan next P H
      → (x y : ℕ) → (H x).live ≡ true → (H y).live ≡ true → (H x).template ≡ a.source → (H y).template ≡ a.sink → x ≢ y
      → Kin H a.anc x y
      → (H x).moved ≡ false → (H y).moved ≡ false → (p q : Process) → P x ≡ some p → P y ≡ some q → Passing plan (worn p) (worn q)
  unfolding tag
  passing next P H g x y live-x live-y at_source at-sink differ kin moved-x moved-y p q e f = record {
    labels = λ i h held.
        let w = source i h held in (
          fit_q.unmoved moved-y i h ∙ rw at-sink (asked i h w).rule18,
          fit_p.tags i h ∙ (same i h w (g.apart x y born_x born_y differ) ∙ sym (fit_q.tags i h)),
        );
  }
    where
      fit_p : Fits plan x p (H x)
      fit_p = g.fits x p e

      fit_q : Fits plan y q (H y)
      fit_q = g.fits y q f

      born_x : (H x).born ≡ true
      born_x = (g.alive x live-x).0

      born_y : (H y).born ≡ true
      born_y = (g.alive y live-y).0

      source : (i : ℕ) → i < plan.identifiers → has i p.label ≡ true → has i (at plan a.source).lab ≡ true
      source i h held = rw at_source at (sym (fit_p.unmoved moved-x i h) ∙ held)

      Same : ℕ → Type 0
      Same i = maker (creates plan i) (lineage x (H x)) ≡ maker (creates plan i) (lineage y (H y))

      same : (i : ℕ) → i < plan.identifiers → has i (at plan a.source).lab ≡ true
          → Separated plan (lineage x (H x)) (lineage y (H y)) → Same i
      same i h w (parted c) = pick (parted-split plan (node x (H x).template) (node y (H y).template) (H x).above (H y).above c i a.anc kin)
        where
          pick : Same i ⊎ SplitTag plan i (H x).template (H y).template a.anc → Same i
          pick (inl same) = same
          pick (inr split) = absurd ((asked i h w).rule19 (rw (at_source, at-sink) at split))
      same i h w (over c) = absurd (g.childless x y live-x born_y (over_above plan x y (H x) (H y) c))
      same i h w (under c) = absurd (g.childless y x live-y born_x (over_above plan y x (H y) (H x) c))
