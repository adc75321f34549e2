-- Lineages: a process, its parent and so on to serial 0, youngest first, and parts of them. A part of a lineage is a
-- route of the plan read backwards, and a tag is the serial of the nearest process on it that created the identifier.
use Prim.Native.Nat.{ℕ, ◌≤◌, ◌<◌}
use native.Mathlib.Omega.{arith}
use mathlib.Core.Path.{◌≡◌, refl}
use mathlib.Core.Logic.{◌⊎◌, inl, inr}
use mathlib.Core.List.{List, [], ◌∷◌, ◌++◌}
use mathlib.Core.Option.{none, some}
use mathlib.Core.Bool.{Bool, true, false, cond}
use Rattle.lists.proofs.Tests.{bool?}
use Rattle.plan.specs.declared.Plan.{Plan}
use Rattle.plan.specs.Plan.{Successor}
use Rattle.route.specs.Route.{Route, alone, onward, Lacks, Holds}
use Rattle.promise.specs.History.{Node, nearest}

-- ---- words for parts of lineages

-- The serial of the nearest process whose template passes the test, and 0 where there is none. Of the test "creates
-- identifier i" this is the tag of i.
abbrev pub maker : (ℕ → Bool) → List Node → ℕ
maker test [] = 0
maker test (n ∷ rest) = cond (test n.template) n.serial (maker test rest)

-- A process stands on the part.
abbrev pub On : ℕ → List Node → Type 0
On x [] = ⊥
On x (n ∷ rest) = (x ≡ n.serial) ⊎ On x rest

-- Each serial on the part is below the limit.
abbrev pub Older : ℕ → List Node → Type 0
Older limit [] = Unit {0}
Older limit (n ∷ rest) = (n.serial < limit) × Older limit rest

-- No process of the part executes a template that passes the test,
abbrev pub Lacking : (ℕ → Bool) → List Node → Type 0
Lacking test [] = Unit {0}
Lacking test (n ∷ rest) = (test n.template ≡ false) × Lacking test rest

-- or some process does.
abbrev pub Holding : (ℕ → Bool) → List Node → Type 0
Holding test [] = ⊥
Holding test (n ∷ rest) = (test n.template ≡ true) ⊎ Holding test rest

-- The oldest process of the part executes X, and each other a successor of its parent's template.
abbrev pub Descent : Plan → ℕ → List Node → Type 0
Descent plan X [] = ⊥
Descent plan X (n ∷ []) = n.template ≡ X
Descent plan X (n ∷ (m ∷ rest)) = Successor plan m.template n.template × Descent plan X (m ∷ rest)

-- ---- nearest processes

-- A part lacks the test or holds it.
pub lacking? : (test : ℕ → Bool) (l : List Node) → Lacking test l ⊎ Holding test l
lacking? test [] = inl tt
lacking? test (n ∷ l) = step (bool? (test n.template)) (lacking? test l)
  where
    step : (test n.template ≡ true) ⊎ (test n.template ≡ false)
        → Lacking test l ⊎ Holding test l → Lacking test (n ∷ l) ⊎ Holding test (n ∷ l)
    step (inl e) r = inr (inl e)
    step (inr e) (inl h) = inl (e, h)
    step (inr e) (inr h) = inr (inr h)

-- A younger part that lacks the test does not matter for the maker,
pub maker_skip : (test : ℕ → Bool) (part base : List Node) → Lacking test part → maker test (part ++ base) ≡ maker test base
maker_skip test [] base h = refl
maker_skip test (n ∷ part) base h = rw h.0 (maker_skip test part base h.1)

-- nor for the nearest.
pub nearest_skip : (test : ℕ → Bool) (part base : List Node) → Lacking test part → nearest test (part ++ base) ≡ nearest test base
unfolding nearest
nearest_skip test [] base h = refl
nearest_skip test (n ∷ part) base h = rw h.0 (nearest_skip test part base h.1)

-- Where there is a nearest, it is the maker.
pub nearest_maker : (test : ℕ → Bool) (l : List Node) (s : ℕ) → nearest test l ≡ some s → maker test l ≡ s
unfolding nearest
nearest_maker test [] s e = cc
nearest_maker test (n ∷ l) s e = step (test n.template) e (nearest_maker test l s)
  where
    step : (b : Bool) → cond b (some n.serial) (nearest test l) ≡ some s
        → (nearest test l ≡ some s → maker test l ≡ s) → cond b n.serial (maker test l) ≡ s
    step true e further = cc
    step false e further = further e

-- Where there is none, the lineage lacks the test,
pub nearest_none : (test : ℕ → Bool) (l : List Node) → nearest test l ≡ none → Lacking test l
unfolding nearest
nearest_none test [] e = tt
nearest_none test (n ∷ l) e = step (test n.template) refl e (nearest_none test l)
  where
    step : (b : Bool) → test n.template ≡ b → cond b (some n.serial) (nearest test l) ≡ none
        → (nearest test l ≡ none → Lacking test l) → Lacking test (n ∷ l)
    step true t e further = let z : ◌≡◌ {A = ℕ} 0 1 = cc in absurd (omega arith)
    step false t e further = (t, further e)

lacking_none : (test : ℕ → Bool) (l : List Node) → Lacking test l → nearest test l ≡ none
unfolding nearest
lacking_none test [] h = refl
lacking_none test (n ∷ l) h = rw h.0 (lacking_none test l h.1)

-- and where there is one, it holds it.
pub nearest_some : (test : ℕ → Bool) (l : List Node) (s : ℕ) → nearest test l ≡ some s → Holding test l
nearest_some test l s e = step (lacking? test l)
  where
    step : Lacking test l ⊎ Holding test l → Holding test l
    step (inl h) = let k : nearest test l ≡ none = lacking_none test l h in let z : ◌≡◌ {A = ℕ} 0 1 = cc in absurd (omega arith)
    step (inr h) = h

-- ---- serials

-- The maker is as old as the rest.
pub maker_older : (test : ℕ → Bool) (limit : ℕ) (l : List Node) → 0 < limit → Older limit l → maker test l < limit
maker_older test limit [] p h = p
maker_older test limit (n ∷ l) p h = step (test n.template) (maker_older test limit l p h.1)
  where
    step : (b : Bool) → maker test l < limit → cond b n.serial (maker test l) < limit
    step true r = h.0
    step false r = r

-- What is older than a limit is older than a later one.
pub older_later : (limit later : ℕ) (l : List Node) → limit ≤ later → Older limit l → Older later l
older_later limit later [] p h = tt
older_later limit later (n ∷ l) p h = (let q : n.serial < limit = h.0 in omega arith, older_later limit later l p h.1)

-- Whoever stands on a part is as old as it.
pub on_older : (limit x : ℕ) (l : List Node) → Older limit l → On x l → x < limit
on_older limit x [] h o = absurd o
on_older limit x (n ∷ l) h (inl e) = let q : n.serial < limit = h.0 in omega arith
on_older limit x (n ∷ l) h (inr o) = on_older limit x l h.1 o

-- Whoever stands on a part stands on a longer one.
pub on_append : (x : ℕ) (part l : List Node) → On x l → On x (part ++ l)
on_append x [] l o = o
on_append x (n ∷ part) l o = inr (on_append x part l o)

-- ---- a part as a route of the plan

route_snoc : {plan : Plan} {X Y Z : ℕ} {l : List ℕ} → Route plan X Y l → Successor plan Y Z → Route plan X Z (l ++ (Z ∷ []))
route_snoc alone e = onward e alone
route_snoc (onward s r) e = onward s (route_snoc r e)

lacks_snoc : (test : ℕ → Bool) (l : List ℕ) (Z : ℕ) → Lacks test l → test Z ≡ false → Lacks test (l ++ (Z ∷ []))
lacks_snoc test [] Z h e = (e, tt)
lacks_snoc test (X ∷ l) Z h e = (h.0, lacks_snoc test l Z h.1 e)

holds_snoc : (test : ℕ → Bool) (l : List ℕ) (Z : ℕ) → (test Z ≡ true) ⊎ Holds test l → Holds test (l ++ (Z ∷ []))
holds_snoc test [] Z (inl e) = inl e
holds_snoc test [] Z (inr h) = absurd h
holds_snoc test (X ∷ l) Z (inl e) = inr (holds_snoc test l Z (inl e))
holds_snoc test (X ∷ l) Z (inr (inl e)) = inl e
holds_snoc test (X ∷ l) Z (inr (inr h)) = inr (holds_snoc test l Z (inr h))

-- A route from X to Z over the templates of the part: it lacks and holds what the part does.
pub record Routed (plan : Plan) (X Z : ℕ) (part : List Node) : Type 0 where
  pub list : List ℕ
  pub route : Route plan X Z list
  pub lacks : (test : ℕ → Bool) → Lacking test part → Lacks test list
  pub holds : (test : ℕ → Bool) → Holding test part → Holds test list

-- A descent is such a route,
pub descent_route : (plan : Plan) (X : ℕ) (n : Node) (l : List Node) → Descent plan X (n ∷ l) → Routed plan X n.template (n ∷ l)
descent_route plan X n [] e = rw (← e) (record { list = n.template ∷ []; route = alone; lacks = λ test h. h; holds = λ test h. h })
descent_route plan X n (m ∷ l) g =
    let r = descent_route plan X m l g.1 in
    record {
      list = r.list ++ (n.template ∷ []);
      route = route_snoc r.route g.0;
      lacks = λ test h. lacks_snoc test r.list n.template (r.lacks test h.1) h.0;
      holds = λ test h. holds_snoc test r.list n.template (step test (r.holds test) h);
    }
  where
    step : (test : ℕ → Bool) {L : Type 0} → (Holding test (m ∷ l) → L) → Holding test (n ∷ (m ∷ l)) → (test n.template ≡ true) ⊎ L
    step test further (inl e) = inl e
    step test further (inr h) = inr (further h)

-- and the young part of a lineage leads to the lineage's own process.
pub young_route : (plan : Plan) (X : ℕ) (n : Node) (l part base : List Node) → n ∷ l ≡ part ++ base
    → Descent plan X part → Routed plan X n.template part
young_route plan X n l [] base e g = absurd g
young_route plan X n l (k ∷ part) base e g = let q : n ≡ k = cc in rw q (descent_route plan X k part g)

-- A young part grows by a child of the lineage's process.
pub descent_child : (plan : Plan) (X : ℕ) (child n : Node) (l part base : List Node) → n ∷ l ≡ part ++ base → Descent plan X part
    → Successor plan n.template child.template → Descent plan X (child ∷ part)
descent_child plan X child n l [] base e g s = absurd g
descent_child plan X child n l (k ∷ part) base e g s = (let q : n ≡ k = cc in rw (← q) s, g)
