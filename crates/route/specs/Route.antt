-- Routes over a plan, and whether a process at S and one at K can come to wear the same tag of identifier t, or different
-- ones: document 01's terms Joined and Parted ("Routes").
-- Believed: everything here. Proved against it: the laws of crate route; crate relations makes the searches.
use Rattle.std.specs.Prelude.{ℕ}
use mathlib.Core.{Path.{◌≡◌}, Logic.{◌⊎◌}, Bool.{Bool, true, false}, List.{List, [], ◌∷◌}}
use Rattle.std.specs.Prelude.{eqb}
use Rattle.plan.specs.declared.{Form.{Form, TheVariants.{End, Go, Either, Both}}, Plan.{Plan}}
use Rattle.plan.specs.Plan.{at, Successor, creates}

-- "A route is a list of templates, each after the first a successor of the one before; one template alone is a
-- route": its first template, its last, and the list.
pub data Route (plan : Plan) : ℕ → ℕ → List ℕ → Type 0 where
  alone : {X : ℕ} → Route plan X X (X ∷ [])
  onward : {X Y Z : ℕ} {rest : List ℕ} → Successor plan X Y → Route plan Y Z rest → Route plan X Z (X ∷ rest)

-- A route lacks, or holds, a template that passes the test; its ends count.
abbrev pub Lacks : (ℕ → Bool) → List ℕ → Type 0
Lacks test [] = Unit {0}
Lacks test (X ∷ rest) = (test X ≡ false) × Lacks test rest

abbrev pub Holds : (ℕ → Bool) → List ℕ → Type 0
Holds test [] = ⊥
Holds test (X ∷ rest) = (test X ≡ true) ⊎ Holds test rest

-- The test for one template, A.
abbrev pub equals : ℕ → ℕ → Bool
equals A X = eqb X A

-- A route from X to Z without a template that passes the test.
pub record RouteLacking (plan : Plan) (test : ℕ → Bool) (X Z : ℕ) : Type 0 where
  pub list : List ℕ
  pub route : Route plan X Z list
  pub lacks : Lacks test list

-- "Template 0 is the root": some route from it leads to X, and one of those lacks A, or holds A, ends included.
abbrev pub Reached : Plan → ℕ → Type 0
Reached plan X = (list : List ℕ) × Route plan 0 X list

abbrev pub ReachedLacking : Plan → ℕ → ℕ → Type 0
ReachedLacking plan A X = RouteLacking plan (equals A) 0 X

abbrev pub ReachedHolding : Plan → ℕ → ℕ → Type 0
ReachedHolding plan A X = (list : List ℕ) × Route plan 0 X list × Holds (equals A) list

-- "Its branches are its two successors, in either assignment, also when they are equal."
abbrev pub Branches : Form → ℕ → ℕ → Type 0
Branches End one other = ⊥
Branches (Go Y) one other = ⊥
Branches (Either Y Z) one other = ⊥
Branches (Both Y Z) one other = ((one ≡ Y) × (other ≡ Z)) ⊎ ((one ≡ Z) × (other ≡ Y))

-- "A fork is a `both` template reached by some route from the root": the fork L with its branches, and a route from
-- one branch to S and one from the other to K, both without a template that passes the test.
pub record Forked (plan : Plan) (test : ℕ → Bool) (S K : ℕ) : Type 0 where
  pub L : ℕ
  pub one : ℕ
  pub other : ℕ
  pub reached : Reached plan L
  pub branches : Branches (at plan L).form one other
  pub to_S : RouteLacking plan test one S
  pub to_K : RouteLacking plan test other K

module _ (plan : Plan) (t S K A : ℕ) where
  -- "Some fork L has a route from one branch to S and one from the other branch to K, both without C, and either one
  -- of these holds A or some route from the root to L, ends included, lacks A."
  pub record SharedAtFork : Type 0 where
    pub fork : Forked plan (creates plan t) S K
    pub ancestor : (Holds (equals A) fork.to_S.list ⊎ Holds (equals A) fork.to_K.list) ⊎ ReachedLacking plan A fork.L

  -- "S is reached from the root, a route leads from a successor of S to K without C, and either it holds A or some
  -- route from the root to S, ends included, lacks A."
  pub record SharedDown : Type 0 where
    pub reached : Reached plan S
    pub child : ℕ
    pub successor : Successor plan S child
    pub to_K : RouteLacking plan (creates plan t) child K
    pub ancestor : Holds (equals A) to_K.list ⊎ ReachedLacking plan A S

  -- Document 01's Joined (t, S, K, A).
  abbrev pub SharedTag : Type 0
  SharedTag = SharedAtFork ⊎ SharedDown

  -- Document 01's Parted (t, S, K, A): "some fork L with A on a route from the root to L, ends included, has a route
  -- from one branch to S and one from the other to K, both without A, and C is on one of them."
  pub record SplitTag : Type 0 where
    pub fork : Forked plan (equals A) S K
    pub under : ReachedHolding plan A fork.L
    pub created : Holds (creates plan t) fork.to_S.list ⊎ Holds (creates plan t) fork.to_K.list
