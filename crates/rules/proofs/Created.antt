-- Rule 11: its check is accepted exactly when no identifier is created by two templates, and where it is broken it names the
-- lowest identifier that is, and its two lowest templates.
use Prim.Native.Nat.{ℕ, ◌≤◌, ◌<◌}
use mathlib.Core.Path.{◌≡◌, sym, ap, ap₂, ◌∙◌}
use mathlib.Core.Bool.{Bool, true, false, cond, ◌&&◌}
use mathlib.Core.Logic.{⊎_elim}
use native.Mathlib.Nat.{lt_trans}
use native.Mathlib.Omega.{arith}
use lib.Dec.{ltb}
use borrow.Author.Tests.{ltb-true, lt-ltb}
use Rattle.lists.specs.Numbers.{any, lowest}
use Rattle.lists.proofs.Tests.{and_left, and_right, and_of, fails, passes_fails, lt_or_le}
use Rattle.lists.proofs.Every.{any_at, any_of}
use Rattle.lists.proofs.Lowest.{lowest-holds, lowest-below, lowest_any, lowest_is}
use Rattle.plan.specs.declared.Plan.{Plan}
use Rattle.plan.specs.Plan.{creates}
use Rattle.rules.specs.Rules.{Rule11}
use Rattle.rules.specs.Judge.{Breach, Accepted, Broken, creator, next_creator, check11}
use Rattle.rules.specs.Broken.{breach, CreatedTwice}
use Rattle.rules.proofs.Walk.{Decided, test_accepted, test_broken, test_decided}

-- The identifier t has one creator at most.
abbrev Once : Plan → ℕ → Type 0
Once plan t = (W Z : ℕ) → W < plan.count → Z < plan.count → creates plan t W ≡ true → creates plan t Z ≡ true → W ≡ Z

module _ (plan : Plan) (t : ℕ) where
  past : ℕ → Bool
  past X = ltb (creator plan t) X && creates plan t X

  -- No creator stands before the lowest.
  creator_le : (X : ℕ) → creates plan t X ≡ true → creator plan t ≤ X
  unfolding creator
  creator_le X e = ⊎_elim (λ l. absurd (passes_fails (creates plan t X) e (lowest-below plan.count (creates plan t) X l))) (λ g. g) (lt_or_le X (lowest plan.count (creates plan t)))

  creator_there : creator plan t < plan.count → creates plan t (creator plan t) ≡ true
  unfolding creator
  creator_there = lowest-holds plan.count (creates plan t)

  next_any : ltb (next_creator plan t) plan.count ≡ any plan.count past
  unfolding next_creator past
  next_any = lowest_any plan.count past

  is_creator : ltb (next_creator plan t) plan.count ≡ false → (X : ℕ) → X < plan.count → creates plan t X ≡ true → X ≡ creator plan t
  unfolding past
  is_creator e X l h =
      ⊎_elim (λ g. absurd (passes_fails (past X) (and_of (ltb (creator plan t) X) (creates plan t X) (lt-ltb (creator plan t) X g) h) (any_at plan.count past (sym next_any ∙ e) X l)))
      (λ g. let k = creator_le X h in omega arith) (lt_or_le (creator plan t) X)

  once_of : ltb (next_creator plan t) plan.count ≡ false → Once plan t
  once_of e W Z w z p q = is_creator e W w p ∙ sym (is_creator e Z z q)

  once_to : Once plan t → ltb (next_creator plan t) plan.count ≡ false
  unfolding past
  once_to o = next_any ∙ any_of plan.count past (λ X l. fails (past X) (λ e.
      let g = ltb-true (creator plan t) X (and_left (ltb (creator plan t) X) (creates plan t X) e) in
      let c = lt_trans g l in
      let q = o (creator plan t) X c l (creator_there c) (and_right (ltb (creator plan t) X) (creates plan t X) e) in
      omega arith))

  next_there : next_creator plan t < plan.count → past (next_creator plan t) ≡ true
  unfolding next_creator past
  next_there = lowest-holds plan.count past

  next_below : (W : ℕ) → W < next_creator plan t → past W ≡ false
  unfolding next_creator past
  next_below = lowest-below plan.count past

  created_twice : t < plan.identifiers → ltb (next_creator plan t) plan.count ≡ true → ((u : ℕ) → u < t → Once plan u) → CreatedTwice plan (creator plan t) (next_creator plan t) t
  unfolding past creator
  created_twice h e lower =
      let l = ltb-true (next_creator plan t) plan.count e in
      let both = next_there l in
      let g = ltb-true (creator plan t) (next_creator plan t) (and_left (ltb (creator plan t) (next_creator plan t)) (creates plan t (next_creator plan t)) both) in
      record {
        identifier = h;
        order = g;
        inside = l;
        first = creator_there (lt_trans g l);
        second = and_right (ltb (creator plan t) (next_creator plan t)) (creates plan t (next_creator plan t)) both;
        none_below = lowest-below plan.count (creates plan t);
        none_between = λ W a b. fails (creates plan t W) (λ k. passes_fails (past W) (and_of (ltb (creator plan t) W) (creates plan t W) (lt-ltb (creator plan t) W a) k) (next_below W b));
        lowest = λ u W Z k. lower u k W Z;
      }

  -- The two lowest creators, whichever are named.
  creator_is : (X Y : ℕ) → CreatedTwice plan X Y t → creator plan t ≡ X
  unfolding creator
  creator_is X Y c = lowest_is plan.count (creates plan t) X (lt_trans c.order c.inside) c.first c.none_below

  next_is : (X Y : ℕ) → CreatedTwice plan X Y t → next_creator plan t ≡ Y
  unfolding next_creator
  next_is X Y c =
      let e = creator_is X Y c in
      ap (λ (k : ℕ). lowest plan.count (λ W. ltb k W && creates plan t W)) e
      ∙ lowest_is plan.count (λ W. ltb X W && creates plan t W) Y c.inside
      (and_of (ltb X Y) (creates plan t Y) (lt-ltb X Y c.order) c.second)
      (λ W l. fails (ltb X W && creates plan t W) (λ k.
      passes_fails (creates plan t W) (and_right (ltb X W) (creates plan t W) k) (c.none_between W (ltb-true X W (and_left (ltb X W) (creates plan t W) k)) l)))

module _ (plan : Plan) where
  abbrev twice : ℕ → Bool
  twice t = ltb (next_creator plan t) plan.count

  pub rule11_of : check11 plan ≡ Accepted → Rule11 plan
  unfolding check11
  rule11_of e t X Y h = once_of plan t (any_at plan.identifiers twice (sym (lowest_any plan.identifiers twice) ∙ test_accepted (ltb (lowest plan.identifiers twice) plan.identifiers) _ e) t h) X Y

  pub rule11_to : Rule11 plan → check11 plan ≡ Accepted
  unfolding check11
  rule11_to r =
      let t = lowest plan.identifiers twice in
      ap (λ (c : Bool). cond c (Broken (breach 11 (creator plan t) (next_creator plan t) t)) Accepted)
      (lowest_any plan.identifiers twice ∙ any_of plan.identifiers twice (λ u h. once_to plan u (λ W Z. r u W Z h)))

  pub broken11_of : (b : Breach) → check11 plan ≡ Broken b → (X Y t : ℕ) × CreatedTwice plan X Y t × (breach 11 X Y t ≡ b)
  unfolding check11
  broken11_of b e =
      let t = lowest plan.identifiers twice in
      let r = test_broken (ltb t plan.identifiers) (breach 11 (creator plan t) (next_creator plan t) t) b e in
      let l = ltb-true t plan.identifiers r.0 in (
        creator plan t,
        next_creator plan t,
        t,
        created_twice plan t l (lowest-holds plan.identifiers twice l) (λ u h. once_of plan u (lowest-below plan.identifiers twice u h)),
        r.1,
      )

  pub of_broken11 : (X Y t : ℕ) → CreatedTwice plan X Y t → check11 plan ≡ Broken (breach 11 X Y t)
  unfolding check11
  of_broken11 X Y t c =
      let there : twice t ≡ true = ap (λ (k : ℕ). ltb k plan.count) (next_is plan t X Y c) ∙ lt-ltb Y plan.count c.inside in
      let e = lowest_is plan.identifiers twice t c.identifier there (λ u l. once_to plan u (λ W Z. c.lowest u W Z l)) in
      ap (λ (u : ℕ). cond (ltb u plan.identifiers) (Broken (breach 11 (creator plan u) (next_creator plan u) u)) Accepted) e
      ∙ ap (λ (b : Bool). cond b (Broken (breach 11 (creator plan t) (next_creator plan t) t)) Accepted) (lt-ltb t plan.identifiers c.identifier)
      ∙ ap₂ (λ (x y : ℕ). Broken (breach 11 x y t)) (creator_is plan t X Y c) (next_is plan t X Y c)

  pub decided11 : Decided (check11 plan)
  unfolding check11
  decided11 = test_decided (ltb (lowest plan.identifiers twice) plan.identifiers) _
