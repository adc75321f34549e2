-- What separated lineages say about the plan. If two processes have the same tag of t and are not kin under A, their
-- lineages show SharedTag (document 01's Joined); if they part at a fork, are kin and have different tags, SplitTag
-- (Parted). So a plan without the relation has no such processes.
use Prim.Native.Nat.{ℕ}
use mathlib.Core.Path.{◌≡◌, refl, sym, ap, ◌∙◌}
use mathlib.Core.Logic.{◌⊎◌, inl, inr}
use mathlib.Core.Bool.{Bool}
use mathlib.Core.List.{List, ◌∷◌}
use mathlib.Core.Option.{Option, none, some}
use Rattle.plan.specs.declared.Plan.{Plan}
use Rattle.plan.specs.Plan.{Successor, creates}
use Rattle.route.specs.Route.{Holds, equals, RouteLacking, ReachedLacking, Forked, SharedTag, SplitTag}
use Rattle.promise.specs.History.{Node, nearest}
use Rattle.promise.proofs.Lineage.{maker, Lacking, Holding, Descent, Routed, lacking?, maker_skip, nearest_skip, nearest_maker, nearest_none, nearest_some, descent_route, young_route}
use Rattle.promise.proofs.Separation.{Parting, Over}

-- Both lineages have a nearest process at A, and it is the same.
abbrev pub Kindred : ℕ → List Node → List Node → Type 0
Kindred A lx ly = (s : ℕ) × (nearest (equals A) lx ≡ some s) × (nearest (equals A) ly ≡ some s)

-- A lineage on which no template passes a test is a route without one.
abbrev lacking_route : {plan : Plan} {X Z : ℕ} {part : List Node} (r : Routed plan X Z part) (test : ℕ → Bool) → Lacking test part → RouteLacking plan test X Z
lacking_route r test h = record { list = r.list; route = r.route; lacks = r.lacks test h }

module _ (plan : Plan) (n m : Node) (l k : List Node) where
  -- ---- where they part

  module _ (a : Parting plan (n ∷ l) (m ∷ k)) where
    to_x : Routed plan a.X n.template a.part_x
    to_x = young_route plan a.X n l a.part_x (a.fork ∷ a.rest) a.split_x a.descent_x

    to_y : Routed plan a.Y m.template a.part_y
    to_y = young_route plan a.Y m k a.part_y (a.fork ∷ a.rest) a.split_y a.descent_y

    to_fork : Routed plan 0 a.fork.template (a.fork ∷ a.rest)
    to_fork = descent_route plan 0 a.fork a.rest a.root

    -- The fork with its branches, and the routes to both processes.
    abbrev forked : (test : ℕ → Bool) → Lacking test a.part_x → Lacking test a.part_y → Forked plan test n.template m.template
    forked test x y = record {
      L = a.fork.template;
      one = a.X;
      other = a.Y;
      reached = (to_fork.list, to_fork.route);
      branches = a.branches;
      to_S = lacking_route to_x test x;
      to_K = lacking_route to_y test y;
    }

    -- Equal tags of t: the plan shares the tag, or the two are kin.
    pub parted_shared : (t A : ℕ) → maker (creates plan t) (n ∷ l) ≡ maker (creates plan t) (m ∷ k)
        → SharedTag plan t n.template m.template A ⊎ Kindred A (n ∷ l) (m ∷ k)
    parted_shared t A e = pick (lacking? (equals A) a.part_x) (lacking? (equals A) a.part_y) (nearest (equals A) (a.fork ∷ a.rest)) refl
      where
        shared : (Holds (equals A) to_x.list ⊎ Holds (equals A) to_y.list) ⊎ ReachedLacking plan A a.fork.template
            → SharedTag plan t n.template m.template A
        shared c = let same = a.same (creates plan t) e in inl (record { fork = forked (creates plan t) same.0 same.1; ancestor = c })

        pick : Lacking (equals A) a.part_x ⊎ Holding (equals A) a.part_x → Lacking (equals A) a.part_y ⊎ Holding (equals A) a.part_y
            → (o : Option ℕ) → nearest (equals A) (a.fork ∷ a.rest) ≡ o
            → SharedTag plan t n.template m.template A ⊎ Kindred A (n ∷ l) (m ∷ k)
        pick (inr h) j o q = inl (shared (inl (inl (to_x.holds (equals A) h))))
        pick (inl h) (inr j) o q = inl (shared (inl (inr (to_y.holds (equals A) j))))
        pick (inl h) (inl j) none q =
            inl (shared (inr (lacking_route to_fork (equals A) (nearest_none (equals A) (a.fork ∷ a.rest) q))))
        pick (inl h) (inl j) (some s) q =
            inr (
              s,
              ap (nearest (equals A)) a.split_x ∙ (nearest_skip (equals A) a.part_x (a.fork ∷ a.rest) h ∙ q),
              ap (nearest (equals A)) a.split_y ∙ (nearest_skip (equals A) a.part_y (a.fork ∷ a.rest) j ∙ q),
            )

    -- Kin: their tags of t are equal, or the plan splits the tag.
    pub parted-split : (t A : ℕ) → Kindred A (n ∷ l) (m ∷ k)
        → (maker (creates plan t) (n ∷ l) ≡ maker (creates plan t) (m ∷ k)) ⊎ SplitTag plan t n.template m.template A
    parted-split t A kin = pick (lacking? (creates plan t) a.part_x) (lacking? (creates plan t) a.part_y)
      where
        bare : Lacking (equals A) a.part_x × Lacking (equals A) a.part_y
        bare = a.same (equals A) (nearest_maker (equals A) (n ∷ l) kin.0 kin.1 ∙ sym (nearest_maker (equals A) (m ∷ k) kin.0 kin.2))

        common : nearest (equals A) (a.fork ∷ a.rest) ≡ some kin.0
        common = sym (nearest_skip (equals A) a.part_x (a.fork ∷ a.rest) bare.0) ∙ (sym (ap (nearest (equals A)) a.split_x) ∙ kin.1)

        split : Holds (creates plan t) to_x.list ⊎ Holds (creates plan t) to_y.list → SplitTag plan t n.template m.template A
        split c = record {
          fork = forked (equals A) bare.0 bare.1;
          under = (to_fork.list, to_fork.route, to_fork.holds (equals A) (nearest_some (equals A) (a.fork ∷ a.rest) kin.0 common));
          created = c;
        }

        pick : Lacking (creates plan t) a.part_x ⊎ Holding (creates plan t) a.part_x
            → Lacking (creates plan t) a.part_y ⊎ Holding (creates plan t) a.part_y
            → (maker (creates plan t) (n ∷ l) ≡ maker (creates plan t) (m ∷ k)) ⊎ SplitTag plan t n.template m.template A
        pick (inr h) j = inr (split (inl (to_x.holds (creates plan t) h)))
        pick (inl h) (inr j) = inr (split (inr (to_y.holds (creates plan t) j)))
        pick (inl h) (inl j) = inl (ap (maker (creates plan t)) a.split_x ∙ (maker_skip (creates plan t) a.part_x (a.fork ∷ a.rest) h
            ∙ (sym (maker_skip (creates plan t) a.part_y (a.fork ∷ a.rest) j) ∙ sym (ap (maker (creates plan t)) a.split_y))))

  -- ---- where the first is above the second

  -- Equal tags of t: the plan shares the tag, or the two are kin.
  pub over_shared : (t A : ℕ) → Descent plan 0 (n ∷ l) → (a : Over plan (n ∷ l) (m ∷ k))
      → maker (creates plan t) (n ∷ l) ≡ maker (creates plan t) (m ∷ k)
      → SharedTag plan t n.template m.template A ⊎ Kindred A (n ∷ l) (m ∷ k)
  over_shared t A root a e = pick (lacking? (equals A) a.part) (nearest (equals A) (n ∷ l)) refl
    where
      down : Routed plan a.X m.template a.part
      down = young_route plan a.X m k a.part (n ∷ l) a.split a.descent

      to_n : Routed plan 0 n.template (n ∷ l)
      to_n = descent_route plan 0 n l root

      edge : Successor plan n.template a.X
      edge = let q : n ≡ a.top = cc a.begins in rw q a.edge

      shared : Holds (equals A) down.list ⊎ ReachedLacking plan A n.template → SharedTag plan t n.template m.template A
      shared c = inr (record {
        reached = (to_n.list, to_n.route);
        child = a.X;
        successor = edge;
        to_K = lacking_route down (creates plan t) (a.same (creates plan t) e);
        ancestor = c;
      })

      pick : Lacking (equals A) a.part ⊎ Holding (equals A) a.part → (o : Option ℕ) → nearest (equals A) (n ∷ l) ≡ o
          → SharedTag plan t n.template m.template A ⊎ Kindred A (n ∷ l) (m ∷ k)
      pick (inr h) o q = inl (shared (inl (down.holds (equals A) h)))
      pick (inl h) none q = inl (shared (inr (lacking_route to_n (equals A) (nearest_none (equals A) (n ∷ l) q))))
      pick (inl h) (some s) q = inr (s, q, ap (nearest (equals A)) a.split ∙ (nearest_skip (equals A) a.part (n ∷ l) h ∙ q))
