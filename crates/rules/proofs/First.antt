-- The first figure of a breach: a template of the plan where the part shown is a name, else an assertion of the policy.
use Prim.Native.Nat.{ℕ, ◌<◌}
use mathlib.Core.Path.{◌≡◌, refl, sym, ap, subst, ◌∙◌}
use mathlib.Core.Logic.{◌⊎◌, inl, inr}
use mathlib.Core.Bool.{Bool, true, false, not, ◌&&◌, ◌||◌, and-false}
use mathlib.Core.List.{List, [], ◌∷◌, ◌++◌}
use native.Mathlib.Omega.{arith}
use lib.Dec.{eqb}
use borrow.Author.Tests.{eq-eqb}
use Rattle.lists.specs.Numbers.{all}
use Rattle.lists.proofs.Tests.{or_right}
use Rattle.plan.specs.declared.Plan.{Plan}
use Rattle.plan.specs.declared.Kind.{Kind}
use Rattle.plan.specs.declared.Assertion.{Assertion}
use Rattle.plan.specs.declared.Policy.{Policy}
use Rattle.rules.specs.declared.Breach.{Breach}
use Rattle.rules.specs.Judge.{EdgeRule, edge_rules, is_edge_rule}
use Rattle.rules.specs.Broken.{EdgeBroken, AssertionBroken, broken17, broken18, broken19, FirstBroken, broken11, on_edge, on_assertion}

-- The part that a breach shows is a name.
abbrev pub shows_name : Breach → Bool
shows_name b = eqb b.rule 11 || is_edge_rule b.rule

-- The rule of a broken edge is a row's.
some_fails : {A : Type 0} (p : A → Bool) (before : List A) (x : A) (after : List A) → p x ≡ false → all p (before ++ (x ∷ after)) ≡ false
unfolding all
some_fails p [] x after e = ap (λ (c : Bool). c && all p after) e
some_fails p (y ∷ before) x after e = ap (λ (c : Bool). p y && c) (some_fails p before x after e) ∙ and-false (p y)

edge_row : (plan : Plan) (X Y : ℕ) (b : Breach) → EdgeBroken plan X Y b → is_edge_rule b.rule ≡ true
unfolding is_edge_rule
edge_row plan X Y b k =
    let other : EdgeRule → Bool = λ r. not (eqb b.rule r.number) in
    let same = ap (λ (x : Breach). x.rule) (sym k.named) in
    ap not (ap (all other) k.order ∙ some_fails other k.before k.row k.after (ap not (eq-eqb b.rule k.row.number same)))

edge_first : (plan : Plan) (X Y : ℕ) (b : Breach) → EdgeBroken plan X Y b → b.first ≡ X
edge_first plan X Y b k = ap (λ (b : Breach). b.first) (sym k.named)

assertion_first : (plan : Plan) (place : ℕ) (a : Assertion) (k : Kind) (b : Breach) → AssertionBroken plan place a k b
    → (shows_name b ≡ false) × (b.first ≡ place)
unfolding is_edge_rule edge_rules all
assertion_first plan place a _ _ (broken17 h) = (refl, refl)
assertion_first plan place a _ _ (broken18 h g) = (refl, refl)
assertion_first plan place a _ _ (broken19 h g k) = (refl, refl)

pub breach_first : (plan : Plan) (policy : Policy) (b : Breach) → FirstBroken plan policy b
    → ((shows_name b ≡ true) × (b.first < plan.count)) ⊎ ((shows_name b ≡ false) × (b.first < policy.count))
breach_first plan policy _ (broken11 c) = inl (refl, omega (arith, c.order, c.inside))
breach_first plan policy b (on_edge X Y once earlier k) = inl (
  or_right (eqb b.rule 11) (is_edge_rule b.rule) (edge_row plan X Y b k),
  subst (λ (n : ℕ). n < plan.count) (sym (edge_first plan X Y b k)) earlier.inside,
)
breach_first plan policy b (on_assertion i once edges l earlier k) =
    let at = assertion_first plan i _ _ b k in
    inr (at.0, subst (λ (n : ℕ). n < policy.count) (sym at.1) l)
