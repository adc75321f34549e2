-- The place of a serial among rising numbers is how many of them are below it: the turns of the count, and what `place_of`
-- answers by it.
use Prim.Native.Nat.{ℕ, zero, suc, ◌+◌, ◌-◌, ◌%◌, ◌^◌, ◌≤◌, ◌<◌}
use mathlib.Core.Path.{◌≡◌, refl, sym, subst}
use mathlib.Core.Bool.{Bool, true, false, cond}
use mathlib.Core.Logic.{⊎_elim}
use mathlib.Core.List.{List}
use native.Mathlib.Nat.{le_refl, le_trans}
use native.Mathlib.Numerals.{unary_clauses}
use native.Mathlib.Omega.{arith}
use lib.ListN.{length, get_or}
use mir.Val.{bool_byte, Fits}
use mir.Syntax.{w32}
use lib.Dec.{ltb, eqb}
use borrow.Author.Tests.{ltb-false, ltb-true, ne_eqb, eq-eqb}
use Rattle.lists.specs.Numbers.{lowest}
use Rattle.lists.proofs.Tests.{lt_or_le}
use Rattle.lists.proofs.Every.{every_at}
use Rattle.lists.proofs.Lowest.{lowest_is, lowest_none}
use Rattle.ranges.specs.Ranges.{rises}
use Rattle.arrays.specs.Places.{Split, Located}

module _ (xs : List ℕ) (up : rises xs ≡ true) where
  next_above : (i : ℕ) → i + 1 < length xs → get_or xs i 0 < get_or xs (i + 1) 0
  unfolding rises
  next_above i h =
      ltb-true (get_or xs i 0) (get_or xs (i + 1) 0)
      (every_at (length xs - 1) (λ i. ltb (get_or xs i 0) (get_or xs (i + 1) 0)) up i (omega arith))

  -- What stands further on is greater.
  greater : (i d : ℕ) → i + suc d < length xs → get_or xs i 0 < get_or xs (i + suc d) 0
  greater i zero h = simp unary_clauses (simp unary_clauses at (next_above i (omega arith)))
  greater i (suc d) h =
      let step : get_or xs (i + suc d) 0 < get_or xs (i + suc (suc d)) 0 = simp unary_clauses (simp unary_clauses at (next_above (i + suc d) (omega arith))) in
      let rest = greater i d (omega arith) in
      omega arith

  above : (i j : ℕ) → i < j → j < length xs → get_or xs i 0 < get_or xs j 0
  above i j h l =
      let e : i + suc (j - i - 1) ≡ j = omega arith in
      subst (λ (k : ℕ). get_or xs i 0 < get_or xs k 0) e (greater i (j - i - 1) (omega arith))

  -- A number is no less than its place.
  no_less : (i : ℕ) → i < length xs → i ≤ get_or xs i 0
  no_less zero h = omega arith
  no_less (suc i) h = omega (arith, no_less i (omega arith), above i (suc i) (omega arith) h)

  -- One turn: where number i is below s, all before it are. t is 1 where it is below s, else 0; the sum does not wrap.
  module _ (s low i : ℕ) (small : Fits w32 s) (held : Fits w32 low) (few : low ≤ i) (l : i < length xs) (p : Split xs i s low) where
    more : (b : Bool) → ltb (get_or xs i 0) s ≡ b → Split xs (i + 1) s ((low + cond b 1 0) % 2 ^ 32)
    more true e =
        let m = ltb-true (get_or xs i 0) s e in
        let all : i ≤ low = ⊎_elim (λ k. let a = p.over low (omega arith) k in let b = above low i k l in absurd (omega arith)) (λ g. g) (lt_or_le low i) in
        let whole : (low + 1) % 2 ^ 32 ≡ low + 1 = omega (arith, no_less i l, small, m, few) in
        subst (Split xs (i + 1) s) (sym whole) (record {
          under = λ j h. ⊎_elim (λ k. p.under j k) (λ k. let e : i ≡ j = omega arith in subst (λ (j : ℕ). get_or xs j 0 < s) e m) (lt_or_le j low);
          over = λ j h k. absurd (omega arith);
        })
    more false e =
        let m = ltb-false (get_or xs i 0) s e in
        let whole : (low + 0) % 2 ^ 32 ≡ low = omega (arith, held) in
        subst (Split xs (i + 1) s) (sym whole) (record {
          under = p.under;
          over = λ j h k. ⊎_elim (λ g. p.over j h g) (λ g. let e : i ≡ j = omega arith in subst (λ (j : ℕ). s ≤ get_or xs j 0) e m) (lt_or_le j i);
        })

    pub split_more : (t : ℕ) → t ≡ cond (ltb (get_or xs i 0) s) 1 0 → Split xs (i + 1) s ((low + t) % 2 ^ 32)
    split_more t et = subst (λ (t : ℕ). Split xs (i + 1) s ((low + t) % 2 ^ 32)) (sym et) (more (ltb (get_or xs i 0) s) refl)

  -- All are counted.
  module _ (s low : ℕ) (p : Split xs (length xs) s low) where
    not_under : (i : ℕ) → i < low → eqb (get_or xs i 0) s ≡ false
    not_under i l = ne_eqb (get_or xs i 0) s (λ q. let h = p.under i l in omega arith)

    split_found : low < length xs → get_or xs low 0 ≡ s → low ≡ lowest (length xs) (λ i. eqb (get_or xs i 0) s)
    split_found l e = sym (lowest_is (length xs) (λ i. eqb (get_or xs i 0) s) low l (eq-eqb (get_or xs low 0) s e) not_under)

    split_past : length xs ≤ low → length xs ≡ lowest (length xs) (λ i. eqb (get_or xs i 0) s)
    split_past g = sym (lowest_none (length xs) (λ i. eqb (get_or xs i 0) s) (λ i l. not_under i (le_trans l g)))

    split_none : (get_or xs low 0 ≡ s → ⊥) → low < length xs → length xs ≡ lowest (length xs) (λ i. eqb (get_or xs i 0) s)
    split_none ne k =
        sym (lowest_none (length xs) (λ i. eqb (get_or xs i 0) s) (λ i l. ⊎_elim (not_under i) (λ g. ne_eqb (get_or xs i 0) s (other i l g)) (lt_or_le i low)))
      where
        first : s < get_or xs low 0
        first = ⊎_elim (λ h. h) (λ g. let a = p.over low (le_refl low) k in absurd (ne (omega arith))) (lt_or_le s (get_or xs low 0))

        other : (i : ℕ) → i < length xs → low ≤ i → get_or xs i 0 ≡ s → ⊥
        other i l g q =
            ⊎_elim (λ h. let a = above low i h l in omega (arith, a, q, first))
            (λ h. let e : i ≡ low = omega arith in ne (subst (λ (j : ℕ). get_or xs j 0 ≡ s) e q)) (lt_or_le low i)

-- A test as a number: 1 where it passed, so that a loop that adds these up has no branch.
pub one_if : (b : Bool) → bool_byte b ≡ cond b 1 0
one_if true = refl
one_if false = refl

pub one_at_most : (b : Bool) → bool_byte b ≤ 1
one_at_most true = omega arith
one_at_most false = omega arith

-- As the code meets it: low is the answer of `count_below`.
module _ (xs : List ℕ) (s low : ℕ) (p : rises xs ≡ true → Split xs (length xs) s low) where
  pub located_found : low < length xs → get_or xs low 0 ≡ s → Located xs s low
  located_found l q up = split_found xs up s low (p up) l q

  pub located_none : (low < length xs → get_or xs low 0 ≡ s → ⊥) → Located xs s (length xs)
  located_none q up = ⊎_elim (λ l. split_none xs up s low (p up) (q l) l) (split_past xs up s low (p up)) (lt_or_le low (length xs))
