-- Routes put together and taken apart: what is handed from a template to its successors, a way between two routes, and
-- the place where a route passes a test.
use Prim.Native.Nat.{ℕ, ◌<◌}
use mathlib.Core.Path.{◌≡◌}
use mathlib.Core.Logic.{inl, inr, ⊎_elim}
use mathlib.Core.Bool.{Bool, true, false}
use mathlib.Core.List.{List, [], ◌∷◌}
use native.Mathlib.Nat.{le_trans}
use Rattle.plan.specs.declared.Plan.{Plan}
use Rattle.plan.specs.Plan.{Successor}
use Rattle.plan.specs.Range.{InRange}
use Rattle.plan.proofs.Fitting.{successor_below}
use Rattle.route.specs.Route.{Route, alone, onward, Lacks, Holds, RouteLacking}

-- Every successor is a place of the plan's 64.
abbrev pub Low : Plan → Type 0
Low plan = (X Y : ℕ) → Successor plan X Y → Y < 64

pub range_low : (plan : Plan) → InRange plan → Low plan
range_low plan range X Y s = le_trans (successor_below plan range X Y s) range.templates

-- Where nothing passes the test, every route lacks it.
pub lacks_all : (test : ℕ → Bool) → ((X : ℕ) → test X ≡ false) → (route : List ℕ) → Lacks test route
lacks_all test none [] = tt
lacks_all test none (X ∷ rest) = (none X, lacks_all test none rest)

module _ (plan : Plan) (test : ℕ → Bool) where
  -- A route begins with its first template.
  pub starts_lacking : {X Z : ℕ} {route : List ℕ} → Route plan X Z route → Lacks test route → test X ≡ false
  starts_lacking alone l = l.0
  starts_lacking (onward s r) l = l.0

  pub starts_holding : {X Z : ℕ} {route : List ℕ} → Route plan X Z route → test X ≡ true → Holds test route
  starts_holding alone e = inl e
  starts_holding (onward s r) e = inl e

  pub without_alone : (X : ℕ) → test X ≡ false → RouteLacking plan test X X
  without_alone X e = record { list = X ∷ []; route = alone; lacks = (e, tt) }

  pub without_onward : (X Y Z : ℕ) → test X ≡ false → Successor plan X Y → RouteLacking plan test Y Z → RouteLacking plan test X Z
  without_onward X Y Z e s h = record { list = X ∷ h.list; route = onward s h.route; lacks = (e, h.lacks) }

  -- What holds at the start and is handed to each successor that fails the test holds at the end.
  pub along : (P : ℕ → Type 0) → ((Y Z : ℕ) → P Y → Successor plan Y Z → test Z ≡ false → P Z)
      → {X Z : ℕ} {route : List ℕ} → Route plan X Z route → Lacks test route → P X → P Z
  along P step alone l p = p
  along P step (onward {X = X} {Y = Y} s r) l p = along P step r l.1 (step X Y p s (starts_lacking r l.1))

-- The end of a route from a low template is low.
pub ends_low : (plan : Plan) → Low plan → {X Z : ℕ} {route : List ℕ} → Route plan X Z route → X < 64 → Z < 64
ends_low plan low alone x = x
ends_low plan low (onward s r) x = ends_low plan low r (low _ _ s)

module _ (plan : Plan) (barred via : ℕ → Bool) where
  -- A route from X to Z without a barred template, on which some template passes the test via.
  abbrev pub Passes : ℕ → ℕ → Type 0
  Passes X Z = (found : RouteLacking plan barred X Z) × Holds via found.list

  meeting : {X W Z : ℕ} {first second : List ℕ} → Route plan X W first → Lacks barred first → Route plan W Z second → Lacks barred second → via W ≡ true → Passes X Z
  meeting {second = second} alone l r k e = (record { list = second; route = r; lacks = k }, starts_holding plan via r e)
  meeting (onward {X = X} s q) l r k e =
      let rest = meeting q l.1 r k e in
      (record { list = X ∷ rest.0.list; route = onward s rest.0.route; lacks = (l.0, rest.0.lacks) }, inr rest.1)

  -- Two routes that meet at a template that passes.
  pub by_way : (X W Z : ℕ) → RouteLacking plan barred X W → via W ≡ true → RouteLacking plan barred W Z → Passes X Z
  by_way X W Z g e h = meeting g.route g.lacks h.route h.lacks e

  -- And such a route is two that meet there.
  pub at_way : {X Z : ℕ} {route : List ℕ} → Route plan X Z route → Lacks barred route → Holds via route
      → (W : ℕ) × (via W ≡ true) × RouteLacking plan barred X W × RouteLacking plan barred W Z
  at_way (alone {X = X}) l t = ⊎_elim (λ e. (X, e, without_alone plan barred X l.0, without_alone plan barred X l.0)) (λ z. absurd z) t
  at_way (onward {X = X} {Y = Y} {rest = rest} s r) l t =
      ⊎_elim (λ e. (X, e, without_alone plan barred X l.0, record { list = X ∷ rest; route = onward s r; lacks = l }))
      (λ h. let w = at_way r l.1 h in (w.0, w.1, without_onward plan barred X Y w.0 l.0 s w.2, w.3)) t
