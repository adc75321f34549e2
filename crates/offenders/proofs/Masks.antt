-- What is in the masks of offenders, and the lowest item below a limit.
use Prim.Native.Nat.{ℕ, ◌^◌, ◌≤◌, ◌<◌, min}
use mathlib.Core.Path.{◌≡◌, refl, sym, ap, subst, ◌∙◌}
use mathlib.Core.Logic.{⊎_elim}
use mathlib.Core.Bool.{Bool, true, false, not, cond, ◌&&◌, ◌||◌}
use native.Mathlib.Omega.{arith}
use lib.Dec.{ltb}
use mir.Syntax.{w8}
use mir.Val.{Fits}
use Rattle.std.specs.Prelude.{Option, Some, None}
use lib.Bits.{bit_and, bit_or}
use borrow.Author.Tests.{ltb-true, lt-ltb, le-ltb, ltb-false}
use Rattle.lists.specs.Numbers.{lowest}
use Rattle.lists.proofs.Tests.{lt_or_le}
use Rattle.lists.proofs.Lowest.{lowest-holds, lowest-below, lowest_is, lowest_none, lowest_ext}
use Rattle.mask.specs.Mask.{has, without}
use Rattle.mask.specs.Sets.{Marks}
use Rattle.mask.proofs.Items.{has_or, has_and, has-without}
use Rattle.mask.proofs.Width.{has_past}
use Rattle.offenders.specs.Lowest.{lowest_of}

-- ---- what is in the mask

-- Of a, what is neither in b nor in c: 12, 14 and 15.
pub neither : (a b c r : ℕ) → r ≡ without a (bit_or b c) → (i : ℕ) → has i r ≡ (has i a && not (has i b || has i c))
neither a b c r e i = ap (has i) e ∙ has-without i a (bit_or b c) ∙ ap (λ (x : Bool). has i a && not x) (has_or i b c)

-- Of a, what is not in b, and of that what is not in c: 13.
pub less_less : (a b c m r : ℕ) → m ≡ without a b → r ≡ without m c → (i : ℕ) → has i r ≡ ((has i a && not (has i b)) && not (has i c))
less_less a b c m r e h i = ap (has i) h ∙ has-without i m c ∙ ap (λ (x : Bool). x && not (has i c)) (ap (has i) e ∙ has-without i a b)

-- What is in both: 16.
pub in_both : (a b : ℕ) → Marks (bit_and a b) (λ i. has i a && has i b)
in_both a b i = has_and i a b

-- ---- the lowest below a limit

module _ (limit : ℕ) (test : ℕ → Bool) where
  pub found_at : (i : ℕ) → i < limit → i ≡ lowest limit test → ◌≡◌ {A = Option ℕ} (Some i) (lowest_of limit test)
  found_at i h q = sym (ap (λ (j : ℕ). cond (ltb j limit) (Some j) None) (sym q) ∙ ap (λ (b : Bool). cond b (Some i) None) (lt-ltb i limit h))

  pub none_at : lowest limit test ≡ limit → ◌≡◌ {A = Option ℕ} None (lowest_of limit test)
  none_at q = sym (ap (λ (j : ℕ). cond (ltb j limit) (Some j) None) q ∙ ap (λ (b : Bool). cond b (Some limit) None) (le-ltb limit limit (omega arith)))

module _ (m limit i : ℕ) (e : i ≡ lowest 32 (λ j. has j m)) where
  fails_below : (j : ℕ) → j < i → has j m ≡ false
  fails_below j h = lowest-below 32 (λ j. has j m) j (subst (λ (k : ℕ). j < k) e h)

  -- It is the lowest of all,
  pub found_below : i < min limit 32 → ◌≡◌ {A = Option ℕ} (Some i) (lowest_of limit (λ j. has j m))
  found_below h =
      let holds : has i m ≡ true = ap (λ (j : ℕ). has j m) e ∙ lowest-holds 32 (λ j. has j m) (subst (λ (k : ℕ). k < 32) e (omega arith)) in
      found_at limit (λ j. has j m) i (omega arith) (sym (lowest_is limit (λ j. has j m) i (omega arith) holds fails_below))

  -- or there is none.
  pub none_below : m < 2 ^ 32 → min limit 32 ≤ i → ◌≡◌ {A = Option ℕ} None (lowest_of limit (λ j. has j m))
  none_below w h =
      none_at limit (λ j. has j m)
      (lowest_none limit (λ j. has j m) (λ j l. ⊎_elim (λ k. fails_below j k) (λ k. has_past 32 m j w (omega arith)) (lt_or_le j i)))

-- What is found, and what it says that nothing is.
some_is : (b : Bool) (n i : ℕ) → ◌≡◌ {A = Option ℕ} (cond b (Some n) None) (Some i) → (b ≡ true) × (n ≡ i)
some_is true n i e = (refl, cc)
some_is false n i e = absurd (cc)

none_is : (b : Bool) (n : ℕ) → ◌≡◌ {A = Option ℕ} (cond b (Some n) None) None → b ≡ false
none_is true n e = absurd (cc)
none_is false n e = refl

module _ (limit : ℕ) (test : ℕ → Bool) (o : Option ℕ) (e : o ≡ lowest_of limit test) where
  pub some_lowest : (i : ℕ) → o ≡ Some i → (i ≡ lowest limit test) × (i < limit)
  some_lowest i h =
      let w = some_is (ltb (lowest limit test) limit) (lowest limit test) i (sym e ∙ h) in
      (sym w.1, subst (λ (k : ℕ). k < limit) w.1 (ltb-true (lowest limit test) limit w.0))

  pub none_lowest : o ≡ None → limit ≤ lowest limit test
  none_lowest h = ltb-false (lowest limit test) limit (none_is (ltb (lowest limit test) limit) (lowest limit test) (sym e ∙ h))

-- Found, it is a byte.
pub item_room : (limit i : ℕ) → (i < limit → i < 32) → i < limit → Fits w8 i
item_room limit i low h = let l = low h in omega arith

-- The lowest item of the mask of a test is the lowest that passes.
pub lowest_marked : (limit m : ℕ) (test : ℕ → Bool) → Marks m test → lowest limit (λ i. has i m) ≡ lowest limit test
lowest_marked limit m test marks = lowest_ext limit (λ i. has i m) test (λ i h. marks i)
