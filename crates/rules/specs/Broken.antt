-- What a verdict of broken says (document 01, "The judge"): the rule that it names is broken at the figures that it
-- gives, and every rule before it in the document's order holds. "Broken gives the first broken rule."
-- Not to be believed beside Judge.antt: the law `broken_first` says that the two are the same.
use Rattle.std.specs.Prelude.{ℕ, ◌<◌, ◌≡◌, Bool, true, false, cond, List, ◌∷◌, ◌++◌, Result, Ok, Err}
use Rattle.mask.specs.Mask.{has}
use Rattle.plan.specs.declared.Plan.{Plan}
use Rattle.plan.specs.declared.Kind.{Kind}
use Rattle.plan.specs.declared.Kind.TheVariants.{Secrecy, Prot}
use Rattle.plan.specs.declared.Assertion.{Assertion}
use Rattle.plan.specs.declared.Policy.{Policy}
use Rattle.plan.specs.Plan.{at, successors, Successor, creates, assertion_at}
use Rattle.route.specs.Route.{SplitTag}
use Rattle.rules.specs.declared.Breach.{Breach}
use Rattle.rules.specs.declared.Verdict.{Verdict}
use Rattle.rules.specs.declared.Verdict.TheVariants.{Accepted, Broken, Unread}
use Rattle.rules.specs.Rules.{Rule11, Each, RowHolds, EdgeRules, Rule17, Rules18To19, Asked}
use Rattle.rules.specs.Judge.{EdgeRule, edge_rules}

abbrev pub breach : ℕ → ℕ → ℕ → ℕ → Breach
breach rule first second identifier = record { rule = rule; first = first; second = second; identifier = identifier }

-- A prot's verdict at one identifier by three tests: worn by the source, worn by the sink, split.
abbrev pub tested : ℕ → Assertion → ℕ → Bool → Bool → Bool → Verdict
tested place a t l k s = cond l (cond k (cond s (Broken (breach 19 place a.sink t)) Accepted) (Broken (breach 18 place a.sink t))) Accepted

-- 11: "an identifier is created by two templates (lowest identifier; its two lowest templates)".
pub record CreatedTwice (plan : Plan) (X Y t : ℕ) : Type 0 where
  pub identifier : t < plan.identifiers
  pub order : X < Y
  pub inside : Y < plan.count
  pub first : creates plan t X ≡ true
  pub second : creates plan t Y ≡ true
  pub none_below : (W : ℕ) → W < X → creates plan t W ≡ false
  pub none_between : (W : ℕ) → X < W → W < Y → creates plan t W ≡ false
  pub lowest : (u W Z : ℕ) → u < t → W < plan.count → Z < plan.count → creates plan u W ≡ true → creates plan u Z ≡ true → W ≡ Z

-- "The lowest identifier that breaks it."
pub record Lowest (plan : Plan) (offends : ℕ → Bool) (i : ℕ) : Type 0 where
  pub identifier : i < plan.identifiers
  pub breaks : offends i ≡ true
  pub lowest : (j : ℕ) → j < i → offends j ≡ false

-- An edge, "each tested 12 to 16": a row is broken, and those before it hold.
pub record EdgeBroken (plan : Plan) (X Y : ℕ) (b : Breach) : Type 0 where
  pub before : List EdgeRule
  pub row : EdgeRule
  pub after : List EdgeRule
  pub order : edge_rules ≡ before ++ (row ∷ after)
  pub earlier : Each (RowHolds plan X Y) before
  pub identifier : ℕ
  pub lowest : Lowest plan (row.offends (at plan X).lab (at plan X) (at plan Y)) identifier
  pub named : breach row.number X Y identifier ≡ b

-- "Edges X to Y, X rising, in form order": those before this one hold.
pub record EarlierEdges (plan : Plan) (X Y : ℕ) : Type 0 where
  pub inside : X < plan.count
  pub lower : (W Z : ℕ) → W < X → Successor plan W Z → EdgeRules plan W Z
  pub before : List ℕ
  pub after : List ℕ
  pub order : successors (at plan X).form ≡ before ++ (Y ∷ after)
  pub same : Each (EdgeRules plan X) before

-- "For prot, identifiers of lab Source rising": t is one, and those before it hold.
pub record EarlierIdentifiers (plan : Plan) (a : Assertion) (t : ℕ) : Type 0 where
  pub identifier : t < plan.identifiers
  pub worn : has t (at plan a.source).lab ≡ true
  pub lower : (u : ℕ) → u < t → has u (at plan a.source).lab ≡ true → Rules18To19 plan a u

-- An assertion of either kind, "first being its place from 0, second its sink"; of 17 the "identifier reads 255".
pub data AssertionBroken (plan : Plan) (place : ℕ) (a : Assertion) : Kind → Breach → Type 0 where
  broken17 : (Rule17 plan a → ⊥) → AssertionBroken plan place a Secrecy (breach 17 place a.sink 255)
  broken18 : {t : ℕ}
      → EarlierIdentifiers plan a t
      → has t (at plan a.sink).lab ≡ false
      → AssertionBroken plan place a Prot (breach 18 place a.sink t)
  broken19 : {t : ℕ}
      → EarlierIdentifiers plan a t
      → has t (at plan a.sink).lab ≡ true
      → SplitTag plan t a.source a.sink a.anc
      → AssertionBroken plan place a Prot (breach 19 place a.sink t)

-- 11, then the edges, then the assertions in order.
pub data FirstBroken (plan : Plan) (policy : Policy) : Breach → Type 0 where
  broken11 : {X Y t : ℕ} → CreatedTwice plan X Y t → FirstBroken plan policy (breach 11 X Y t)
  on_edge : {b : Breach} (X Y : ℕ)
      → Rule11 plan
      → EarlierEdges plan X Y
      → EdgeBroken plan X Y b
      → FirstBroken plan policy b
  on_assertion : {b : Breach} (i : ℕ)
      → Rule11 plan
      → ((X Y : ℕ) → X < plan.count → Successor plan X Y → EdgeRules plan X Y)
      → i < policy.count
      → ((j : ℕ) → j < i → Asked plan (assertion_at policy j) (assertion_at policy j).kind)
      → AssertionBroken plan i (assertion_at policy i) (assertion_at policy i).kind b
      → FirstBroken plan policy b

-- The code's test of a verdict.
unfoldable pub accepted : Verdict → Bool
accepted Accepted = true
accepted (Broken b) = false
accepted (Unread f) = false

-- What the code hands on from rule to rule: nothing where all is accepted, else the breach.
abbrev pub answered : Result (Unit {0}) Breach → Verdict
answered (Ok u) = Accepted
answered (Err b) = Broken b
