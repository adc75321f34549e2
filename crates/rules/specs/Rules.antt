-- Rules 11 to 19 as propositions, those of an edge by the rows of their table (document 01, "The judge").
-- Not to be believed beside Judge.antt: the law `judge_exactly` says that accepted is judged exactly when all hold.
use Rattle.std.specs.Prelude.{ℕ, ◌<◌, ◌≡◌, ◌⊎◌, Bool, true, false, List, [], ◌∷◌}
use Rattle.mask.specs.Mask.{has}
use Rattle.plan.specs.declared.Plan.{Plan}
use Rattle.plan.specs.declared.Kind.{Kind}
use Rattle.plan.specs.declared.Kind.TheVariants.{Secrecy, Prot}
use Rattle.plan.specs.declared.Assertion.{Assertion}
use Rattle.plan.specs.declared.Policy.{Policy}
use Rattle.plan.specs.Plan.{at, Successor, creates, assertion_at}
use Rattle.route.specs.Route.{SharedTag, SplitTag}
use Rattle.rules.specs.Judge.{EdgeRule, edge_rules, wearable}

-- 11: "an identifier is created by two templates".
abbrev pub Rule11 : Plan → Type 0
Rule11 plan =
    (t X Y : ℕ) → t < plan.identifiers → X < plan.count → Y < plan.count
    → creates plan t X ≡ true → creates plan t Y ≡ true → X ≡ Y

-- No identifier does anything against a rule.
abbrev pub Kept : Plan → (ℕ → Bool) → Type 0
Kept plan offends = (i : ℕ) → i < plan.identifiers → offends i ≡ false

-- Something holds of each element of a list.
abbrev pub Each : {A : Type 0} → (A → Type 0) → List A → Type 0
Each P [] = Unit {0}
Each P (x ∷ rest) = P x × Each P rest

-- A row of the table holds on one edge.
abbrev pub RowHolds : Plan → ℕ → ℕ → EdgeRule → Type 0
RowHolds plan X Y r = Kept plan (r.offends (at plan X).lab (at plan X) (at plan Y))

-- Rules 12 to 16 on one edge.
abbrev pub EdgeRules : Plan → ℕ → ℕ → Type 0
EdgeRules plan X Y = Each (RowHolds plan X Y) edge_rules

-- 17: t "lies in lab Source, in no neg of a template outside Declass, and either not in lab Sink [..] or not Joined".
pub record Serves (plan : Plan) (a : Assertion) (t : ℕ) : Type 0 where
  pub worn : has t (at plan a.source).lab ≡ true
  pub lasting : (X : ℕ) → X < plan.count → has X a.declass ≡ false → has t (at plan X).neg ≡ false
  pub shut : (wearable plan a.sink t ≡ false) ⊎ (SharedTag plan t a.source a.sink a.anc → ⊥)

abbrev pub Rule17 : Plan → Assertion → Type 0
Rule17 plan a = (t : ℕ) × (t < plan.identifiers) × Serves plan a t

-- 18 and 19, for the identifiers t of lab Source: "18 if not in lab Sink, else 19 if Parted".
pub record Rules18To19 (plan : Plan) (a : Assertion) (t : ℕ) : Type 0 where
  pub rule18 : has t (at plan a.sink).lab ≡ true
  pub rule19 : SplitTag plan t a.source a.sink a.anc → ⊥

-- What an assertion asks, by its kind.
abbrev pub Asked : Plan → Assertion → Kind → Type 0
Asked plan a Secrecy = Rule17 plan a
Asked plan a Prot = (t : ℕ) → t < plan.identifiers → has t (at plan a.source).lab ≡ true → Rules18To19 plan a t

-- Every rule holds. "All edges count, also of templates no route reaches."
pub record EveryRule (plan : Plan) (policy : Policy) : Type 0 where
  pub rule11 : Rule11 plan
  pub edges : (X Y : ℕ) → X < plan.count → Successor plan X Y → EdgeRules plan X Y
  pub assertions : (i : ℕ) → i < policy.count → Asked plan (assertion_at policy i) (assertion_at policy i).kind
