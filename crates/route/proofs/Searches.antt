-- The depth-first search: it reaches exactly what routes without a barred template reach, the depth does not matter
-- once it is the number of templates not yet entered, and a bar matters only below 64.
use Prim.Native.Nat.{ℕ, zero, suc, ◌-◌, ◌≤◌, ◌<◌}
use mathlib.Core.Path.{◌≡◌, refl, sym, ap, subst, ◌∙◌, fun_ext}
use mathlib.Core.Logic.{◌↔◌, ◌⊎◌, inl, inr, ⊎_elim}
use mathlib.Core.Bool.{Bool, true, false, not}
use mathlib.Core.List.{List, [], ◌∷◌}
use native.Mathlib.Omega.{arith}
use lib.Dec.{ltb}
use borrow.Author.Tests.{ltb-true, lt-ltb, not-true}
use Rattle.lists.specs.Joins.{both}
use Rattle.lists.proofs.Tests.{both_left, both_right, both_of, passes_fails, bool?}
use Rattle.mask.specs.Mask.{has, plus}
use Rattle.mask.specs.Sets.{size}
use Rattle.mask.proofs.Items.{has_none, plus-within, plus-has, plus_cases}
use Rattle.mask.proofs.Width.{within_of}
use Rattle.mask.proofs.Size.{size_le, size-within, size-plus}
use Rattle.plan.specs.declared.Plan.{Plan}
use Rattle.plan.specs.Plan.{at, successors, Among, Successor}
use Rattle.plan.specs.Range.{InRange}
use Rattle.route.specs.Route.{RouteLacking}
use Rattle.route.specs.Search.{if_so, enter_all, is_open, enter, reach}
use Rattle.route.proofs.Routes.{Low, range_low, starts_lacking, without_alone, without_onward, along}

-- Each item of a is in b.
abbrev pub Grows : ℕ → ℕ → Type 0
Grows a b = (i : ℕ) → has i a ≡ true → has i b ≡ true

-- How many templates are not yet entered.
abbrev pub left : ℕ → ℕ
left seen = 64 - size 64 seen

left_grows : (a b : ℕ) → Grows a b → left b ≤ left a
left_grows a b g = omega (arith, size-within 64 a b (within_of 64 a b (λ i h e. g i e)))

left-plus : (m X : ℕ) → X < 64 → has X m ≡ false → left (plus m X) < left m
left-plus m X l e = omega (arith, size-plus 64 m X l e, size_le 64 (plus m X))

-- All are entered where none is left.
full : (m X : ℕ) → left m ≤ 0 → X < 64 → has X m ≡ true
full m X h l = ⊎_elim (λ e. e) (λ e. absurd (let f = left-plus m X l e in omega arith)) (bool? (has X m))

-- ---- what is open

module _ (barred : ℕ → Bool) (seen X : ℕ) where
  pub open_low : is_open barred seen X ≡ true → X < 64
  unfolding is_open
  open_low e = ltb-true X 64 (both_left _ _ e)

  pub open_fresh : is_open barred seen X ≡ true → has X seen ≡ false
  unfolding is_open
  open_fresh e = not-true (has X seen) (both_left _ _ (both_right (ltb X 64) _ e))

  pub open_free : is_open barred seen X ≡ true → barred X ≡ false
  unfolding is_open
  open_free e = not-true (barred X) (both_right (not (has X seen)) _ (both_right (ltb X 64) _ e))

  pub open_of : X < 64 → has X seen ≡ false → barred X ≡ false → is_open barred seen X ≡ true
  unfolding is_open
  open_of l f g = both_of _ _ (lt-ltb X 64 l) (both_of _ _ (ap not f) (ap not g))

  shut_cases : is_open barred seen X ≡ false → X < 64 → (barred X ≡ true) ⊎ (has X seen ≡ true)
  shut_cases e l =
      ⊎_elim inr (λ f. ⊎_elim inl (λ g. absurd (passes_fails (is_open barred seen X) (open_of l f g) e)) (bool? (barred X)))
      (bool? (has X seen))

-- ---- what a search enters

module _ (plan : Plan) (barred : ℕ → Bool) where
  all_grow : (f : ℕ → ℕ → ℕ) → ((seen X : ℕ) → Grows seen (f seen X)) → (list : List ℕ) (seen : ℕ) → Grows seen (enter_all f seen list)
  unfolding enter_all
  all_grow f g [] seen i e = e
  all_grow f g (Y ∷ rest) seen i e = all_grow f g rest (f seen Y) i (g seen Y i e)

  -- What was seen stays seen.
  pub enter_grows : (depth seen X : ℕ) → Grows seen (enter plan barred depth seen X)
  unfolding enter if_so
  enter_grows zero seen X i e = e
  enter_grows (suc depth) seen X i e = go (enter_grows depth) (is_open barred seen X)
    where
      go : ((seen X : ℕ) → Grows seen (enter plan barred depth seen X)) → (b : Bool)
          → has i (if_so b seen (λ _. enter_all (enter plan barred depth) (plus seen X) (successors (at plan X).form))) ≡ true
      go ih true = all_grow (enter plan barred depth) ih (successors (at plan X).form) (plus seen X) i (plus-within seen X i e)
      go ih false = e

  -- Each successor of Y is barred or in m.
  abbrev Closed : ℕ → ℕ → Type 0
  Closed m Y = (Z : ℕ) → Successor plan Y Z → (barred Z ≡ true) ⊎ (has Z m ≡ true)

  record Entered (seen after X : ℕ) : Type 0 where
    grows : Grows seen after
    sound : (Y : ℕ) → has Y after ≡ true → (has Y seen ≡ true) ⊎ RouteLacking plan barred X Y
    closed : (Y : ℕ) → has Y after ≡ true → (has Y seen ≡ true) ⊎ Closed after Y
    start : (barred X ≡ true) ⊎ (has X after ≡ true)

  record AllEntered (seen after : ℕ) (list : List ℕ) : Type 0 where
    grows : Grows seen after
    sound : (Y : ℕ) → has Y after ≡ true → (has Y seen ≡ true) ⊎ ((W : ℕ) × Among W list × RouteLacking plan barred W Y)
    closed : (Y : ℕ) → has Y after ≡ true → (has Y seen ≡ true) ⊎ Closed after Y
    starts : (W : ℕ) → Among W list → (barred W ≡ true) ⊎ (has W after ≡ true)

  none_entered : (seen : ℕ) → AllEntered seen seen []
  none_entered seen = record { grows = λ i e. e; sound = λ Y e. inl e; closed = λ Y e. inl e; starts = λ W z. absurd z }

  more_entered : (seen mid after Y : ℕ) (rest : List ℕ) → Entered seen mid Y → AllEntered mid after rest → AllEntered seen after (Y ∷ rest)
  more_entered seen mid after Y rest v r = record {
    grows = λ i e. r.grows i (v.grows i e);
    sound = λ Z e. ⊎_elim (λ p. ⊎_elim inl (λ q. inr (Y, inl refl, q)) (v.sound Z p)) (λ p. inr (p.0, inr p.1, p.2)) (r.sound Z e);
    closed = λ Z e. ⊎_elim (λ p. ⊎_elim inl (λ q. inr (λ U s. ⊎_elim inl (λ h. inr (r.grows U h)) (q U s))) (v.closed Z p)) inr (r.closed Z e);
    starts = λ W a. ⊎_elim
        (λ e. subst (λ (U : ℕ). (barred U ≡ true) ⊎ (has U after ≡ true)) (sym e) (⊎_elim inl (λ h. inr (r.grows Y h)) v.start))
        (r.starts W) a;
  }

  left_out : (seen X : ℕ) → (barred X ≡ true) ⊎ (has X seen ≡ true) → Entered seen seen X
  left_out seen X h = record { grows = λ i e. e; sound = λ Y e. inl e; closed = λ Y e. inl e; start = h }

  taken_in : (seen after X : ℕ) → barred X ≡ false → AllEntered (plus seen X) after (successors (at plan X).form) → Entered seen after X
  taken_in seen after X free r = record {
    grows = λ i e. r.grows i (plus-within seen X i e);
    sound = λ Y e. ⊎_elim
        (λ p. ⊎_elim inl (λ q. inr (subst (RouteLacking plan barred X) (sym q) (without_alone plan barred X free))) (plus_cases seen X Y p))
        (λ p. inr (without_onward plan barred X p.0 Y free p.1 p.2)) (r.sound Y e);
    closed = λ Y e. ⊎_elim
        (λ p. ⊎_elim inl (λ q. inr (subst (Closed after) (sym q) r.starts)) (plus_cases seen X Y p)) inr (r.closed Y e);
    start = inr (r.grows X (plus-has seen X));
  }

  module _ (low : Low plan) where
    all_entered : (depth : ℕ) (f : ℕ → ℕ → ℕ) → ((seen X : ℕ) → left seen ≤ depth → X < 64 → Entered seen (f seen X) X)
        → (list : List ℕ) (seen : ℕ) → left seen ≤ depth → ((Y : ℕ) → Among Y list → Y < 64) → AllEntered seen (enter_all f seen list) list
    unfolding enter_all
    all_entered depth f ih [] seen h b = none_entered seen
    all_entered depth f ih (Y ∷ rest) seen h b =
        let v = ih seen Y h (b Y (inl refl)) in
        let less : left (f seen Y) ≤ depth = omega (arith, left_grows seen (f seen Y) v.grows) in
        more_entered seen (f seen Y) (enter_all f (f seen Y) rest) Y rest v (all_entered depth f ih rest (f seen Y) less (λ Z a. b Z (inr a)))

    entered : (depth seen X : ℕ) → left seen ≤ depth → X < 64 → Entered seen (enter plan barred depth seen X) X
    unfolding enter if_so
    entered zero seen X h l = left_out seen X (inr (full seen X h l))
    entered (suc depth) seen X h l = go (entered depth) (is_open barred seen X) refl
      where
        go : ((seen X : ℕ) → left seen ≤ depth → X < 64 → Entered seen (enter plan barred depth seen X) X) → (b : Bool) → is_open barred seen X ≡ b
            → Entered seen (if_so b seen (λ _. enter_all (enter plan barred depth) (plus seen X) (successors (at plan X).form))) X
        go ih true e =
            let less : left (plus seen X) ≤ depth = omega (arith, left-plus seen X l (open_fresh barred seen X e)) in
            taken_in seen (enter_all (enter plan barred depth) (plus seen X) (successors (at plan X).form)) X (open_free barred seen X e)
            (all_entered depth (enter plan barred depth) ih (successors (at plan X).form) (plus seen X) less (low X))
        go ih false e = left_out seen X (shut_cases barred seen X e l)

    reach_from : (X Y : ℕ) → X < 64 → has Y (reach plan barred X) ≡ true → RouteLacking plan barred X Y
    unfolding reach
    reach_from X Y l e =
        ⊎_elim (λ z. absurd (passes_fails (has Y 0) z (has_none Y))) (λ h. h) ((entered 64 0 X (omega arith) l).sound Y e)

    reach_to : (X Y : ℕ) → X < 64 → RouteLacking plan barred X Y → has Y (reach plan barred X) ≡ true
    unfolding reach
    reach_to X Y l h =
        let v = entered 64 0 X (omega arith) l in
        along plan barred (λ (Z : ℕ). has Z (enter plan barred 64 0 X) ≡ true)
        (λ U Z p s f. ⊎_elim (λ z. absurd (passes_fails (has U 0) z (has_none U))) (λ c. ⊎_elim (λ b. absurd (passes_fails (barred Z) b f)) (λ q. q) (c Z s)) (v.closed U p))
        h.route h.lacks (⊎_elim (λ b. absurd (passes_fails (barred X) b (starts_lacking plan barred h.route h.lacks))) (λ q. q) v.start)

  -- ---- the depth does not matter

  all_same : (depth : ℕ) (f g : ℕ → ℕ → ℕ) → ((seen X : ℕ) → Grows seen (f seen X)) → ((seen X : ℕ) → left seen ≤ depth → f seen X ≡ g seen X)
      → (list : List ℕ) (seen : ℕ) → left seen ≤ depth → enter_all f seen list ≡ enter_all g seen list
  unfolding enter_all
  all_same depth f g w e [] seen h = refl
  all_same depth f g w e (Y ∷ rest) seen h =
      let less : left (f seen Y) ≤ depth = omega (arith, left_grows seen (f seen Y) (w seen Y)) in
      all_same depth f g w e rest (f seen Y) less ∙ ap (λ (after : ℕ). enter_all g after rest) (e seen Y h)

  deeper : (depth seen X : ℕ) → left seen ≤ depth → enter plan barred depth seen X ≡ enter plan barred (suc depth) seen X
  unfolding enter if_so
  deeper zero seen X h = go (is_open barred seen X) refl
    where
      go : (b : Bool) → is_open barred seen X ≡ b → seen ≡ if_so b seen (λ _. enter_all (enter plan barred zero) (plus seen X) (successors (at plan X).form))
      go true e = absurd (passes_fails (has X seen) (full seen X h (open_low barred seen X e)) (open_fresh barred seen X e))
      go false e = refl
  deeper (suc depth) seen X h = go (deeper depth) (is_open barred seen X) refl
    where
      go : ((seen X : ℕ) → left seen ≤ depth → enter plan barred depth seen X ≡ enter plan barred (suc depth) seen X) → (b : Bool) → is_open barred seen X ≡ b
          → if_so b seen (λ _. enter_all (enter plan barred depth) (plus seen X) (successors (at plan X).form))
          ≡ if_so b seen (λ _. enter_all (enter plan barred (suc depth)) (plus seen X) (successors (at plan X).form))
      go ih true e =
          let less : left (plus seen X) ≤ depth = omega (arith, left-plus seen X (open_low barred seen X e) (open_fresh barred seen X e)) in
          all_same depth (enter plan barred depth) (enter plan barred (suc depth)) (enter_grows depth) ih (successors (at plan X).form) (plus seen X) less
      go ih false e = refl

  -- The search by its own equations: a template that is not open, and one that is.
  pub enter_shut : (seen X : ℕ) → is_open barred seen X ≡ false → enter plan barred 64 seen X ≡ seen
  unfolding enter if_so
  enter_shut seen X e = ap (λ (b : Bool). if_so b seen (λ _. enter_all (enter plan barred 63) (plus seen X) (successors (at plan X).form))) e

  pub enter_open : (seen X : ℕ) → is_open barred seen X ≡ true
      → enter plan barred 64 seen X ≡ enter_all (enter plan barred 64) (plus seen X) (successors (at plan X).form)
  unfolding enter if_so
  enter_open seen X e =
      let less : left (plus seen X) ≤ 63 = omega (arith, left-plus seen X (open_low barred seen X e) (open_fresh barred seen X e)) in
      ap (λ (b : Bool). if_so b seen (λ _. enter_all (enter plan barred 63) (plus seen X) (successors (at plan X).form))) e
      ∙ all_same 63 (enter plan barred 63) (enter plan barred 64) (enter_grows 63) (deeper 63) (successors (at plan X).form) (plus seen X) less

  -- Entering a template that is open leaves fewer, and entering any leaves no more.
  pub fewer : (seen X : ℕ) → is_open barred seen X ≡ true → left (plus seen X) < left seen
  fewer seen X e = left-plus seen X (open_low barred seen X e) (open_fresh barred seen X e)

  pub no_more : (seen X : ℕ) → left (enter plan barred 64 seen X) ≤ left seen
  no_more seen X = left_grows seen (enter plan barred 64 seen X) (enter_grows 64 seen X)

-- ---- a bar matters only below 64

module _ (plan : Plan) (p q : ℕ → Bool) (same : (X : ℕ) → X < 64 → p X ≡ q X) where
  open_bar : (seen X : ℕ) → is_open p seen X ≡ is_open q seen X
  unfolding is_open both
  open_bar seen X = go (ltb X 64) refl
    where
      go : (b : Bool) → ltb X 64 ≡ b → both b (both (not (has X seen)) (not (p X))) ≡ both b (both (not (has X seen)) (not (q X)))
      go true e = ap (λ (c : Bool). both (not (has X seen)) (not c)) (same X (ltb-true X 64 e))
      go false e = refl

  enter_bar : (depth seen X : ℕ) → enter plan p depth seen X ≡ enter plan q depth seen X
  unfolding enter
  enter_bar zero seen X = refl
  enter_bar (suc depth) seen X = go (fun_ext (λ s. fun_ext (λ Y. enter_bar depth s Y)))
    where
      go : enter plan p depth ≡ enter plan q depth
          → if_so (is_open p seen X) seen (λ _. enter_all (enter plan p depth) (plus seen X) (successors (at plan X).form))
          ≡ if_so (is_open q seen X) seen (λ _. enter_all (enter plan q depth) (plus seen X) (successors (at plan X).form))
      go ih i = if_so (open_bar seen X i) seen (λ _. enter_all (ih i) (plus seen X) (successors (at plan X).form))

  pub reach_bar : (X : ℕ) → reach plan p X ≡ reach plan q X
  unfolding reach
  reach_bar X = enter_bar 64 0 X

-- A search reaches Y exactly where some route without a barred template does.
pub reach_exactly : (plan : Plan) → InRange plan → (barred : ℕ → Bool) (X Y : ℕ) → X < 64
    → (has Y (reach plan barred X) ≡ true) ↔ RouteLacking plan barred X Y
reach_exactly plan range barred X Y l =
    (reach_from plan barred (range_low plan range) X Y l, reach_to plan barred (range_low plan range) X Y l)
