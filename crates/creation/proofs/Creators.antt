-- Rule 11 by masks: the identifiers created so far, and those created again; then the two lowest creators of one.
use Prim.Native.Nat.{ℕ, ◌+◌, ◌≤◌, ◌<◌}
use mathlib.Core.Path.{◌≡◌, refl, sym, ap, ap₂, subst, ◌∙◌}
use mathlib.Core.Bool.{Bool, true, false, cond, ◌&&◌, ◌||◌, and-false}
use mathlib.Core.Logic.{◌⊎◌, inl, inr, ⊎_elim}
use native.Mathlib.Nat.{le_trans, lt_trans}
use native.Mathlib.Omega.{arith}
use lib.Dec.{leb, ltb}
use Rattle.std.specs.Prelude.{Option, Some, None, IsSome}
use Rattle.std.specs.Option.{MatchOption}
use mir.Syntax.{w8}
use mir.Val.{Fits}
use lib.Bits.{bit_and, bit_or}
use lib.ListN.{length, get_or}
use borrow.Author.Tests.{lt-ltb, le-ltb, ltb-true, le-leb, lt-leb}
use Rattle.lists.specs.Numbers.{any, lowest}
use Rattle.lists.proofs.Tests.{same_test, lt_or_le, passes_fails, and_left}
use Rattle.lists.proofs.Every.{any_none, any_acc, any_ext, any_of, any_from, any_to, any_capped}
use Rattle.lists.proofs.Lowest.{lowest-holds, lowest-below, lowest_ext, lowest_any, lowest_none, lowest_shorter, lowest_found, lowest_hit}
use Rattle.mask.specs.Mask.{has}
use Rattle.mask.specs.Sets.{Marks}
use Rattle.mask.proofs.Items.{has_or, has_and, has_none}
use Rattle.plan.specs.declared.Template.{Template}
use Rattle.plan.specs.declared.Plan.{Plan}
use Rattle.plan.specs.Plan.{blank, at, creates}
use Rattle.plan.proofs.Places.{template_past}
use Rattle.rules.specs.declared.Verdict.{Verdict}
use Rattle.rules.specs.declared.Verdict.TheVariants.{Accepted}
use Rattle.rules.specs.Judge.{broken, creator, next_creator, check11}
use Rattle.offenders.specs.Lowest.{lowest_of}
use Rattle.offenders.proofs.Masks.{found_at, none_at, some_lowest, none_lowest, lowest_marked}
use Rattle.creation.specs.Creator.{placed, creator_from}

-- ---- the masks

module _ (plan : Plan) where
  -- Some template below n creates t; some template below n creates t again.
  abbrev made : ℕ → ℕ → Bool
  made n t = any n (creates plan t)

  abbrev again : ℕ → ℕ → Bool
  again n t = any n (λ Y. made Y t && creates plan t Y)

  -- What the loop keeps after x templates.
  pub record Gathered (x once twice : ℕ) : Type 0 where
    pub row : 0 < x → length plan.templates ≡ 64
    pub once_made : (t : ℕ) → has t once ≡ made x t
    pub twice_made : (t : ℕ) → has t twice ≡ again x t

  pub gathered_none : Gathered 0 0 0
  gathered_none = record {
    row = λ h. omega arith;
    once_made = λ t. has_none t ∙ sym (any_none (creates plan t));
    twice_made = λ t. has_none t ∙ sym (any_none (λ Y. made Y t && creates plan t Y));
  }

  abbrev here : ℕ → Template
  here x = get_or plan.templates x blank

  new : (x t : ℕ) → has t (here x).creates ≡ creates plan t x
  unfolding creates at
  new x t = refl

  pub gathered_more : (x once twice : ℕ) → Gathered x once twice → length plan.templates ≡ 64
      → Gathered (x + 1) (bit_or once (here x).creates) (bit_or twice (bit_and once (here x).creates))
  gathered_more x once twice g full = record {
    row = λ h. full;
    once_made = λ t. has_or t once (here x).creates ∙ ap (λ (y : Bool). has t once || y) (new x t) ∙ any_acc x (creates plan t) (has t once) (g.once_made t);
    twice_made = λ t.
        has_or t twice (bit_and once (here x).creates)
        ∙ ap (λ (y : Bool). has t twice || y) (has_and t once (here x).creates ∙ ap₂ ◌&&◌ (g.once_made t) (new x t))
        ∙ any_acc x (λ Y. made Y t && creates plan t Y) (has t twice) (g.twice_made t);
  }

  -- Below Y there is a creator exactly where the lowest stands below Y.
  before : (t Y : ℕ) → Y < plan.count → made Y t ≡ ltb (creator plan t) Y
  unfolding creator
  before t Y l =
      same_test (any Y (creates plan t)) (ltb (lowest plan.count (creates plan t)) Y)
      (λ e. let r = any_from Y (creates plan t) e in lt-ltb (lowest plan.count (creates plan t)) Y (⊎_elim (λ k. k) (λ k. absurd (passes_fails (creates plan t r.0) r.2 (lowest-below plan.count (creates plan t) r.0 (le_trans r.1 k)))) (lt_or_le (lowest plan.count (creates plan t)) Y)))
      (λ e. let k = ltb-true (lowest plan.count (creates plan t)) Y e in any_to Y (creates plan t) (lowest plan.count (creates plan t)) k (lowest-holds plan.count (creates plan t) (lt_trans k l)))

  again_next : (t : ℕ) → again plan.count t ≡ ltb (next_creator plan t) plan.count
  unfolding next_creator
  again_next t =
      any_ext plan.count (λ Y. made Y t && creates plan t Y) (λ X. ltb (creator plan t) X && creates plan t X) (λ Y l. ap (λ (x : Bool). x && creates plan t Y) (before t Y l))
      ∙ sym (lowest_any plan.count (λ X. ltb (creator plan t) X && creates plan t X))

  -- Past the places nothing is created.
  module _ (full : length plan.templates ≡ 64) where
    unmade : (t X : ℕ) → 64 ≤ X → creates plan t X ≡ false
    unfolding creates
    unmade t X h = ap (λ (y : Template). has t y.creates) (template_past plan full X h) ∙ has_none t

    not_again : (t Y : ℕ) → 64 ≤ Y → (made Y t && creates plan t Y) ≡ false
    not_again t Y h = ap (λ (x : Bool). made Y t && x) (unmade t Y h) ∙ and-false (made Y t)

  pub gathered_all : (x once twice n : ℕ) → Gathered x once twice → n ≡ placed plan → x ≤ n → n ≤ x → Marks twice (λ t. ltb (next_creator plan t) plan.count)
  gathered_all x once twice n g e l h t = g.twice_made t ∙ whole (lt_or_le 0 x) ∙ again_next t
    where
      whole : (0 < x) ⊎ (x ≤ 0) → again x t ≡ again plan.count t
      whole (inl some) =
          let q : x ≡ placed plan = omega arith in
          ap (λ (k : ℕ). again k t) q ∙ any_capped plan.count 64 (λ Y. made Y t && creates plan t Y) (not_again (g.row some) t)
      whole (inr none) = let q : x ≡ plan.count = omega arith in ap (λ (k : ℕ). again k t) q

  -- ---- the two lowest creators

  -- Creators of t from a template on.
  abbrev from_on : ℕ → ℕ → ℕ → Bool
  from_on from t X = leb from X && creates plan t X

  -- The first of them that is found in the range of places from there on is the lowest.
  module _ (t from : ℕ) where
    abbrev Yes : ℕ → Type 0
    Yes X = has t (get_or plan.templates X blank).creates ≡ true

    abbrev No : ℕ → Type 0
    No X = has t (get_or plan.templates X blank).creates ≡ false

    outside : (n X : ℕ) → X < n → ((k : ℕ) → from ≤ k → k < n → No k) → from_on from t X ≡ false
    unfolding creates at
    outside n X l none = ⊎_elim
        (λ h. ap (λ (x : Bool). x && creates plan t X) (lt-leb from X h))
        (λ h. ap (λ (x : Bool). leb from X && x) (none X h l) ∙ and-false (leb from X)) (lt_or_le X from)

    pub from_first : (n : ℕ) → n ≡ placed plan → (r : Option ℕ)
        → MatchOption r ((k : ℕ) → from ≤ k → k < n → No k) (λ i. (from ≤ i) × (i < n) × Yes i × ((k : ℕ) → from ≤ k → k < i → No k))
        → r ≡ creator_from plan from t
    unfolding creator_from creates at
    from_first n e None none =
        none_at (placed plan) (from_on from t) (lowest_none (placed plan) (from_on from t) (λ i l. outside n i (omega (arith, e)) none))
    from_first n e (Some i) hit =
        let l = hit.1 in
        found_at (placed plan) (from_on from t) i (omega (arith, e))
        (lowest_hit (placed plan) (from_on from t) i (omega (arith, e)) (any_of i (from_on from t) (λ k h. outside i k h hit.3))
        (ap (λ (x : Bool). x && creates plan t i) (le-leb from i hit.0) ∙ hit.2))

  -- ---- the verdict

  twice_test : ℕ → Bool
  twice_test t = ltb (next_creator plan t) plan.count

  module _ (m : ℕ) (e : Marks m (λ i. ltb (next_creator plan i) plan.count)) (o : Option ℕ) (q : o ≡ lowest_of plan.identifiers (λ i. has i m)) where
    found : lowest plan.identifiers twice_test ≡ lowest plan.identifiers (λ i. has i m)
    unfolding twice_test
    found = sym (lowest_marked plan.identifiers m (λ i. ltb (next_creator plan i) plan.count) e)

    abbrev verdict : ℕ → Bool → Verdict
    verdict u c = cond c (broken 11 (creator plan u) (next_creator plan u) u) Accepted

    -- No identifier is created twice.
    pub made_once : o ≡ None → Accepted ≡ check11 plan
    unfolding check11 twice_test
    made_once h =
        let l = none_lowest plan.identifiers (λ i. has i m) o q h in
        sym (ap (verdict (lowest plan.identifiers twice_test))
        (le-ltb (lowest plan.identifiers twice_test) plan.identifiers (subst (λ (u : ℕ). plan.identifiers ≤ u) (sym found) l)))

    module _ (t : ℕ) (h : o ≡ Some t) where
      lowest_twice : lowest plan.identifiers twice_test ≡ t
      lowest_twice = found ∙ sym (some_lowest plan.identifiers (λ i. has i m) o q t h).0

      inside : t < plan.identifiers
      inside = (some_lowest plan.identifiers (λ i. has i m) o q t h).1

      passes : twice_test t ≡ true
      passes = subst (λ (u : ℕ). twice_test u ≡ true) lowest_twice (lowest-holds plan.identifiers twice_test (subst (λ (u : ℕ). u < plan.identifiers) (sym lowest_twice) inside))

      abbrev later : ℕ → Bool
      later X = ltb (creator plan t) X && creates plan t X

      next_inside : next_creator plan t < plan.count
      unfolding twice_test
      next_inside = ltb-true (next_creator plan t) plan.count passes

      first_inside : creator plan t < plan.count
      unfolding next_creator
      first_inside =
          lt_trans (ltb-true (creator plan t) (next_creator plan t) (and_left (ltb (creator plan t) (next_creator plan t)) _ (lowest-holds plan.count later next_inside))) next_inside

      module _ (row : 0 < plan.count → length plan.templates ≡ 64) where
        full : length plan.templates ≡ 64
        full = let l = first_inside in row (omega arith)

        unmade_later : (i : ℕ) → placed plan ≤ i → i < plan.count → creates plan t i ≡ false
        unmade_later i k j = unmade full t i (omega arith)

        not_later : (i : ℕ) → placed plan ≤ i → i < plan.count → later i ≡ false
        not_later i k j = ap (λ (x : Bool). ltb (creator plan t) i && x) (unmade_later i k j) ∙ and-false (ltb (creator plan t) i)

        -- The lowest creator, x,
        module _ (r : Option ℕ) (a : r ≡ creator_from plan 0 t) where
          first_low : creator plan t < placed plan
          unfolding creator
          first_low = lowest_found (placed plan) plan.count (creates plan t) unmade_later first_inside

          first_is : r ≡ Some (creator plan t)
          unfolding creator creator_from
          first_is =
              a ∙ sym (found_at (placed plan) (from_on 0 t) (creator plan t) first_low
              (sym (lowest_ext (placed plan) (from_on 0 t) (creates plan t) (λ i k. ap (λ (x : Bool). x && creates plan t i) (le-leb 0 i (omega arith)))
              ∙ lowest_shorter (placed plan) plan.count (creates plan t) unmade_later first_inside)))

          pub first_there : IsSome r
          first_there = rw first_is refl

          module _ (x : ℕ) (u : r ≡ Some x) where
            x_is : x ≡ creator plan t
            x_is = let e = first_is in cc

            pub first_room : Fits w8 (x + 1)
            first_room = let e = x_is in let l = first_low in omega arith

            past : (i : ℕ) → leb (creator plan t + 1) i ≡ ltb (creator plan t) i
            past i = ⊎_elim (λ k. le-leb (creator plan t + 1) i (omega arith) ∙ sym (lt-ltb (creator plan t) i k)) (λ g. lt-leb (creator plan t + 1) i (omega arith) ∙ sym (le-ltb (creator plan t) i g)) (lt_or_le (creator plan t) i)

            -- and the next one, y.
            module _ (s : Option ℕ) (b : s ≡ creator_from plan (x + 1) t) where
              next_is : s ≡ Some (next_creator plan t)
              unfolding next_creator creator_from
              next_is =
                  b ∙ ap (λ (x : ℕ). creator_from plan (x + 1) t) x_is
                  ∙ sym (found_at (placed plan) (from_on (creator plan t + 1) t) (next_creator plan t) (lowest_found (placed plan) plan.count later not_later next_inside)
                  (sym (lowest_ext (placed plan) (from_on (creator plan t + 1) t) later (λ i k. ap (λ (x : Bool). x && creates plan t i) (past i))
                  ∙ lowest_shorter (placed plan) plan.count later not_later next_inside)))

              pub next_there : IsSome s
              next_there = rw next_is refl

              pub made_twice : (y : ℕ) → s ≡ Some y → broken 11 x y t ≡ check11 plan
              unfolding check11 twice_test
              made_twice y v =
                  let e = next_is in
                  let y_is : y ≡ next_creator plan t = cc in
                  ap₂ (λ (x y : ℕ). broken 11 x y t) x_is y_is
                  ∙ sym (ap (verdict t) (lt-ltb t plan.identifiers inside))
                  ∙ sym (ap (λ (u : ℕ). verdict u (ltb u plan.identifiers)) lowest_twice)
