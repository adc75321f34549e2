-- Laws of `lowest`: it is at most the limit, the test passes there where it is less, and fails below it; and it is the
-- only such number. A loop that looks for it keeps `any i p ≡ false`, with `any_none` and `any_acc` for its turns.
use Prim.Native.Nat.{ℕ, zero, suc, ◌≤◌, ◌<◌, suc-le-suc, zero-le}
use mathlib.Core.Path.{◌≡◌, refl, sym, ap₂}
use mathlib.Core.Bool.{Bool, true, false, cond}
use mathlib.Core.Logic.{⊎_elim}
use native.Mathlib.Nat.{not-suc-le-zero, le_of_suc-le-suc, zero-lt-suc, lt_trans, le_trans, eq-or-lt_of_le}
use lib.Dec.{ltb}
use borrow.Author.Tests.{lt-ltb, ltb-true}
use Rattle.lists.specs.Numbers.{lowest, any}
use Rattle.lists.proofs.Tests.{lt_or_le, passes_fails, same_test}
use Rattle.lists.proofs.Every.{any_at, any_from, any_to}

-- ---- what is so of it

pub lowest_le : (n : ℕ) (p : ℕ → Bool) → lowest n p ≤ n
unfolding lowest
lowest_le zero p = zero-le
lowest_le (suc n) p = go (p zero) (lowest_le n (λ i. p (suc i)))
  where
    go : (b : Bool) → lowest n (λ i. p (suc i)) ≤ n → cond b zero (suc (lowest n (λ i. p (suc i)))) ≤ suc n
    go true h = zero-le
    go false h = suc-le-suc h

-- Below the limit the test passes there.
pub lowest-holds : (n : ℕ) (p : ℕ → Bool) → lowest n p < n → p (lowest n p) ≡ true
unfolding lowest
lowest-holds zero p h = absurd (not-suc-le-zero h)
lowest-holds (suc n) p h = go (p zero) refl (lowest-holds n (λ i. p (suc i))) h
  where
    go : (b : Bool) → p zero ≡ b → (lowest n (λ i. p (suc i)) < n → p (suc (lowest n (λ i. p (suc i)))) ≡ true)
        → cond b zero (suc (lowest n (λ i. p (suc i)))) < suc n → p (cond b zero (suc (lowest n (λ i. p (suc i))))) ≡ true
    go true e ih l = e
    go false e ih l = ih (le_of_suc-le-suc l)

-- Below it the test fails.
pub lowest-below : (n : ℕ) (p : ℕ → Bool) (i : ℕ) → i < lowest n p → p i ≡ false
unfolding lowest
lowest-below zero p i h = absurd (not-suc-le-zero h)
lowest-below (suc n) p i h = go (p zero) refl (lowest-below n (λ j. p (suc j))) i h
  where
    go : (b : Bool) → p zero ≡ b → ((j : ℕ) → j < lowest n (λ j. p (suc j)) → p (suc j) ≡ false)
        → (i : ℕ) → i < cond b zero (suc (lowest n (λ j. p (suc j)))) → p i ≡ false
    go true e ih i l = absurd (not-suc-le-zero l)
    go false e ih zero l = e
    go false e ih (suc i) l = ih i (le_of_suc-le-suc l)

-- ---- which number it is

-- The test passes at i and at nothing below: i is the lowest.
pub lowest_is : (n : ℕ) (p : ℕ → Bool) (i : ℕ) → i < n → p i ≡ true → ((j : ℕ) → j < i → p j ≡ false) → lowest n p ≡ i
lowest_is n p i h e f =
    ⊎_elim (λ l. absurd (passes_fails (p (lowest n p)) (lowest-holds n p (lt_trans l h)) (f (lowest n p) l)))
    (λ g. ⊎_elim (λ q. sym q) (λ l. absurd (passes_fails (p i) e (lowest-below n p i l))) (eq-or-lt_of_le g))
    (lt_or_le (lowest n p) i)

-- It passes nowhere below the limit: the limit.
pub lowest_none : (n : ℕ) (p : ℕ → Bool) → ((i : ℕ) → i < n → p i ≡ false) → lowest n p ≡ n
lowest_none n p f =
    ⊎_elim (λ q. q) (λ l. absurd (passes_fails (p (lowest n p)) (lowest-holds n p l) (f (lowest n p) l))) (eq-or-lt_of_le (lowest_le n p))

-- Tests that agree below the limit.
pub lowest_ext : (n : ℕ) (p q : ℕ → Bool) → ((i : ℕ) → i < n → p i ≡ q i) → lowest n p ≡ lowest n q
unfolding lowest
lowest_ext zero p q e = refl
lowest_ext (suc n) p q e =
    ap₂ (λ (b : Bool) (m : ℕ). cond b zero (suc m)) (e zero (zero-lt-suc n))
    (lowest_ext n (λ i. p (suc i)) (λ i. q (suc i)) (λ i h. e (suc i) (suc-le-suc h)))

-- It is below the limit exactly where the test passes somewhere.
pub lowest_any : (n : ℕ) (p : ℕ → Bool) → ltb (lowest n p) n ≡ any n p
lowest_any n p =
    same_test (ltb (lowest n p) n) (any n p)
    (λ e. let l = ltb-true (lowest n p) n e in any_to n p (lowest n p) l (lowest-holds n p l))
    (λ e. lt-ltb (lowest n p) n (below (any_from n p e)))
  where
    below : (i : ℕ) × (i < n) × (p i ≡ true) → lowest n p < n
    below r = ⊎_elim (λ l. l) (λ g. absurd (passes_fails (p r.0) r.2 (lowest-below n p r.0 (le_trans r.1 g)))) (lt_or_le (lowest n p) n)

-- ---- two limits

-- Where the test fails from n on, whatever a longer limit finds stands below n
pub lowest_found : (n k : ℕ) (p : ℕ → Bool) → ((i : ℕ) → n ≤ i → i < k → p i ≡ false) → lowest k p < k → lowest k p < n
lowest_found n k p f l =
    ⊎_elim (λ h. h) (λ g. absurd (passes_fails (p (lowest k p)) (lowest-holds k p l) (f (lowest k p) g l))) (lt_or_le (lowest k p) n)

-- and is found below n.
pub lowest_shorter : (n k : ℕ) (p : ℕ → Bool) → ((i : ℕ) → n ≤ i → i < k → p i ≡ false) → lowest k p < k → lowest n p ≡ lowest k p
lowest_shorter n k p f l = lowest_is n p (lowest k p) (lowest_found n k p f l) (lowest-holds k p l) (lowest-below k p)

-- ---- the ways out of a loop that looks for it

-- The test passes at i, and at nothing below.
pub lowest_hit : (n : ℕ) (p : ℕ → Bool) (i : ℕ) → i < n → any i p ≡ false → p i ≡ true → i ≡ lowest n p
lowest_hit n p i h f e = sym (lowest_is n p i h e (any_at i p f))
