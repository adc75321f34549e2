-- Rules 18 and 19 by masks: the identifiers that are parted, as a loop finds them, and the lowest of both rules'
-- offenders, at which the walk over the identifiers stops.
use Prim.Native.Nat.{ℕ, zero, suc, ◌+◌, ◌^◌, ◌≤◌, ◌<◌, min, suc-le-suc}
use mathlib.Core.Path.{◌≡◌, refl, sym, ap, subst, ◌∙◌}
use mathlib.Core.Logic.{◌⊎◌, ⊎_elim, inl, inr}
use mathlib.Core.Bool.{Bool, true, false, not, cond, ◌&&◌, true≢false, false≢true}
use native.Mathlib.Nat.{lt_trans, le_trans}
use native.Mathlib.Omega.{arith}
use lib.Dec.{ltb}
use lib.Bits.{bit_and, bit_or}
use borrow.Author.Tests.{lt-ltb, le-ltb, ltb-true}
use Rattle.std.specs.Prelude.{Option, Some, None}
use Rattle.std.specs.List.{fold, range_with_len}
use Rattle.lists.specs.Numbers.{lowest}
use Rattle.lists.proofs.Tests.{bool?, lt_or_le, passes_fails, same_test, and_left, and_right, and_of, or_none, or_cases}
use Rattle.lists.proofs.Lowest.{lowest-holds, lowest-below}
use Rattle.mask.specs.Mask.{has, without, plus}
use Rattle.mask.specs.Sets.{plus_below}
use Rattle.mask.proofs.Items.{has_or, has_and, has-without, has_none, plus-has, plus-within, plus_cases, plus-below}
use Rattle.mask.proofs.Width.{has-below, has_past}
use Rattle.plan.specs.declared.Assertion.{Assertion}
use Rattle.rules.specs.declared.Verdict.TheVariants.{Accepted}
use Rattle.rules.specs.Judge.{broken, first_below}
use Rattle.rules.specs.Broken.{tested}
use Rattle.rules.proofs.Walk.{below_all, below_broken}
use Rattle.offenders.specs.Lowest.{lowest_of}
use Rattle.offenders.proofs.Masks.{some_lowest, none_lowest}
use Rattle.prot.specs.declared.Labels.{Labels}
use Rattle.prot.specs.Lent.{prot_by, Picked}

-- ---- those that are parted

-- Those below t, as the loop finds them.
module _ (asked : ℕ) (parts : ℕ → Bool) where
  found_none : Picked asked parts 0 0
  found_none = record { each = λ i. has_none i ∙ sym (ap (λ (b : Bool). b && (has i asked && parts i)) (le-ltb i 0 (omega arith))) }

  module _ (found t : ℕ) (s : Picked asked parts t found) where
    abbrev P : ℕ → Bool
    P i = has i asked && parts i

    was_found : (i : ℕ) → has i found ≡ true → (i < t) × (P i ≡ true)
    was_found i h =
        let e = sym (s.each i) ∙ h in
        (ltb-true i t (and_left (ltb i t) (P i) e), and_right (ltb i t) (P i) e)

    module _ (small : asked < 2 ^ 32) (r : ℕ) (e : r ≡ cond (has t asked && parts t) (plus_below 32 found t) found) where
      one_more : P t ≡ true → r ≡ plus found t
      one_more h =
          e ∙ ap (λ (b : Bool). cond b (plus_below 32 found t) found) h
          ∙ plus-below 32 found t (has-below 32 asked t small (and_left (has t asked) (parts t) h))

      no_more : P t ≡ false → r ≡ found
      no_more f = e ∙ ap (λ (b : Bool). cond b (plus_below 32 found t) found) f

      found_from : (i : ℕ) → has i r ≡ true → (ltb i (t + 1) && P i) ≡ true
      found_from i h = ⊎_elim
          (λ p. ⊎_elim (λ w. earlier (was_found i w)) (λ q. and_of (ltb i (t + 1)) (P i) (lt-ltb i (t + 1) (omega (arith, q))) (ap P q ∙ p))
          (plus_cases found t i (ap (has i) (sym (one_more p)) ∙ h)))
          (λ f. earlier (was_found i (ap (has i) (sym (no_more f)) ∙ h))) (bool? (P t))
        where
          earlier : (i < t) × (P i ≡ true) → (ltb i (t + 1) && P i) ≡ true
          earlier w = let l = w.0 in and_of (ltb i (t + 1)) (P i) (lt-ltb i (t + 1) (omega arith)) w.1

      found_to : (i : ℕ) → (ltb i (t + 1) && P i) ≡ true → has i r ≡ true
      found_to i h =
          let l = ltb-true i (t + 1) (and_left (ltb i (t + 1)) (P i) h) in
          let p = and_right (ltb i (t + 1)) (P i) h in
          ⊎_elim
          (λ k. let w = s.each i ∙ and_of (ltb i t) (P i) (lt-ltb i t k) p in
          ⊎_elim (λ q. ap (has i) (one_more q) ∙ plus-within found t i w) (λ f. ap (has i) (no_more f) ∙ w) (bool? (P t)))
          (λ k. let q : i ≡ t = omega arith in
          ap (has i) (one_more (ap P (sym q) ∙ p)) ∙ subst (λ (j : ℕ). has j (plus found t) ≡ true) (sym q) (plus-has found t))
          (lt_or_le i t)

      found_more : Picked asked parts (t + 1) r
      found_more = record { each = λ i. same_test (has i r) (ltb i (t + 1) && P i) (found_from i) (found_to i) }

-- What each turn of a fold over a range keeps.
fold_keeps : (h : ℕ → ℕ → ℕ) (P : ℕ → ℕ → Type 0) → ((x m : ℕ) → P x m → P (x + 1) (h m x)) → (n a m : ℕ) → P a m → P (a + n) (fold h m (range_with_len a n))
fold_keeps h P next zero a m p = let q : a ≡ a + 0 = omega arith in subst (λ (k : ℕ). P k m) q p
fold_keeps h P next (suc n) a m p =
    let q : a + 1 + n ≡ a + suc n = omega arith in
    subst (λ (k : ℕ). P k (fold h (h m a) (range_with_len (a + 1) n))) q (fold_keeps h P next n (a + 1) (h m a) (next a m p))

pub found_all : (asked : ℕ) (parts : ℕ → Bool) → asked < 2 ^ 32 → (limit : ℕ)
    → Picked asked parts limit (fold (λ found t. cond (has t asked && parts t) (plus_below 32 found t) found) 0 (range_with_len 0 limit))
found_all asked parts small limit =
    let q : 0 + limit ≡ limit = omega arith in
    let turn : ℕ → ℕ → ℕ = λ found t. cond (has t asked && parts t) (plus_below 32 found t) found in
    subst (λ (k : ℕ). Picked asked parts k (fold turn 0 (range_with_len 0 limit))) q
    (fold_keeps turn (Picked asked parts) (λ t found s. found_more asked parts found t s small _ refl) limit 0 0 (found_none asked parts))

-- ---- the lowest offender of both rules

module _ (place : ℕ) (a : Assertion) (t : ℕ) where
  calm : (l k s : Bool) → (l && not k) ≡ false → ((l && k) && s) ≡ false → tested place a t l k s ≡ Accepted
  calm true true true e h = absurd (true≢false h)
  calm true true false e h = refl
  calm true false s e h = absurd (true≢false e)
  calm false k s e h = refl

  offending : (l k s : Bool) → ((l && not k) ≡ true) ⊎ (((l && k) && s) ≡ true) → tested place a t l k s ≡ broken (cond k 19 18) place a.sink t
  offending true true true h = refl
  offending true true false h = absurd (⊎_elim false≢true false≢true h)
  offending true false s h = refl
  offending false k s h = absurd (⊎_elim false≢true false≢true h)

module _ (labels : Labels) (place : ℕ) (a : Assertion) (parts : ℕ → Bool) (bare low end split : ℕ) (o : Option ℕ)
    (b : bare ≡ without labels.source labels.sink) (l : low ≡ lowest 32 (λ j. has j bare)) (m : end ≡ min labels.limit low)
    (p : Picked (bit_and labels.source labels.sink) parts end split)
    (e : o ≡ lowest_of labels.limit (λ j. has j (bit_or bare split))) (wide : labels.source < 2 ^ 32) where
  abbrev L : ℕ → Bool
  L j = has j labels.source

  abbrev K : ℕ → Bool
  K j = has j labels.sink

  abbrev U : ℕ → Bool
  U j = has j (bit_or bare split)

  bare_at : (j : ℕ) → has j bare ≡ (L j && not (K j))
  bare_at j = ap (has j) b ∙ has-without j labels.source labels.sink

  split_at : (j : ℕ) → has j split ≡ (ltb j end && ((L j && K j) && parts j))
  split_at j = p.each j ∙ ap (λ (x : Bool). ltb j end && (x && parts j)) (has_and j labels.source labels.sink)

  neither : (j : ℕ) → j < lowest labels.limit U → (has j bare ≡ false) × (has j split ≡ false)
  neither j h = or_none (has j bare) (has j split) (sym (has_or j bare split) ∙ lowest-below labels.limit U j h)

  -- Where the walk goes on past low, low is 32, and no label has more.
  past : (j : ℕ) → j < lowest labels.limit U → low ≤ j → L j ≡ false
  past j h g = ⊎_elim
      (λ k. absurd (passes_fails (has low bare)
      (ap (λ (n : ℕ). has n bare) l ∙ lowest-holds 32 (λ j. has j bare) (subst (λ (n : ℕ). n < 32) l k))
      (neither low (le_trans (suc-le-suc g) h)).0))
      (λ k. has_past 32 labels.source j wide (le_trans k g)) (lt_or_le low 32)

  quiet : (j : ℕ) → j < lowest labels.limit U → j < labels.limit → prot_by labels place a parts j ≡ Accepted
  unfolding prot_by
  quiet j h k = ⊎_elim
      (λ g. let n = neither j h in
      let low-enough : j < end = omega (arith, m) in
      calm place a j (L j) (K j) (parts j) (sym (bare_at j) ∙ n.0)
      (sym (ap (λ (x : Bool). x && ((L j && K j) && parts j)) (lt-ltb j end low-enough)) ∙ sym (split_at j) ∙ n.1))
      (λ g. ap (λ (x : Bool). tested place a j x (K j) (parts j)) (past j h g)) (lt_or_le j low)

  pub prot_none : o ≡ None → Accepted ≡ first_below labels.limit (prot_by labels place a parts)
  prot_none h =
      let g = none_lowest labels.limit U o e h in
      sym (below_all labels.limit (prot_by labels place a parts) (λ j k. quiet j (le_trans k g) k))

  module _ (t : ℕ) (h : o ≡ Some t) where
    first : (t ≡ lowest labels.limit U) × (t < labels.limit)
    first = some_lowest labels.limit U o e t h

    there : prot_by labels place a parts t ≡ broken (cond (K t) 19 18) place a.sink t
    unfolding prot_by
    there =
        let found = sym (has_or t bare split) ∙ ap U first.0 ∙ lowest-holds labels.limit U (subst (λ (k : ℕ). k < labels.limit) first.0 first.1) in
        offending place a t (L t) (K t) (parts t) (⊎_elim (λ x. inl (sym (bare_at t) ∙ x))
        (λ x. inr (and_right (ltb t end) ((L t && K t) && parts t) (sym (split_at t) ∙ x))) (or_cases (has t bare) (has t split) found))

    pub prot_found : (rule : ℕ) → rule ≡ cond (has t labels.sink) 19 18
        → broken rule place a.sink t ≡ first_below labels.limit (prot_by labels place a parts)
    prot_found rule q =
        ap (λ (n : ℕ). broken n place a.sink t) q
        ∙ sym (below_broken labels.limit (prot_by labels place a parts) t _ first.1
        (λ j g. quiet j (subst (λ (k : ℕ). j < k) first.0 g) (lt_trans g first.1)) there)
