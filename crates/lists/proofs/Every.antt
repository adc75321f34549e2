-- Laws of `every` and `any`: the last number of a range, what a range tells of one number and back, and the turns of
-- a loop that counts up. Such a loop keeps `every i p ≡ true` or `any i p ≡ false`, or gathers `every i p`.
use Prim.Native.Nat.{ℕ, zero, suc, ◌+◌, ◌*◌, ◌≤◌, ◌<◌, suc-le-suc, min}
use mathlib.Core.Path.{◌≡◌, refl, sym, ap, ap₂, ◌∙◌, fun_ext}
use mathlib.Core.Bool.{Bool, true, false, not, ◌&&◌, ◌||◌, and-true, and_assoc, or-false}
use mathlib.Core.Logic.{⊎_elim}
use native.Mathlib.Nat.{not-suc-le-zero, le_of_suc-le-suc, zero-lt-suc, zero-add, suc-add, zero-mul, suc-mul, add_comm, add_assoc, le_trans}
use native.Mathlib.Numerals.{add-one}
use native.Mathlib.Omega.{arith}
use Rattle.lists.specs.Numbers.{every, any}
use Rattle.lists.proofs.Tests.{and_left, and_right, and_of, or_left, or_right, or_cases, fails, passes_fails, same_test, lt_or_le}

-- ---- `every`: a range and its numbers

pub every_none : (p : ℕ → Bool) → every 0 p ≡ true
unfolding every
every_none p = refl

-- The last number of a range.
pub every_snoc : (n : ℕ) (p : ℕ → Bool) → every (suc n) p ≡ (every n p && p n)
unfolding every
every_snoc zero p = and-true (p zero)
every_snoc (suc n) p =
    ap (λ (b : Bool). p zero && b) (every_snoc n (λ i. p (suc i))) ∙ sym (and_assoc (p zero) (every n (λ i. p (suc i))) (p (suc n)))

-- What holds at each number below n holds at i.
pub every_at : (n : ℕ) (p : ℕ → Bool) → every n p ≡ true → (i : ℕ) → i < n → p i ≡ true
unfolding every
every_at zero p e i h = absurd (not-suc-le-zero h)
every_at (suc n) p e zero h = and_left (p zero) (every n (λ i. p (suc i))) e
every_at (suc n) p e (suc i) h = every_at n (λ i. p (suc i)) (and_right (p zero) (every n (λ i. p (suc i))) e) i (le_of_suc-le-suc h)

-- What holds at whichever number below n is named holds at each.
pub every_of : (n : ℕ) (p : ℕ → Bool) → ((i : ℕ) → i < n → p i ≡ true) → every n p ≡ true
unfolding every
every_of zero p h = refl
every_of (suc n) p h =
    and_of (p zero) (every n (λ i. p (suc i))) (h zero (zero-lt-suc n)) (every_of n (λ i. p (suc i)) (λ i l. h (suc i) (suc-le-suc l)))

-- One number at which it fails is enough.
pub every_fails : (n : ℕ) (p : ℕ → Bool) (i : ℕ) → i < n → p i ≡ false → every n p ≡ false
every_fails n p i h e = fails (every n p) (λ q. passes_fails (p i) (every_at n p q i h) e)

-- Tests that agree below n.
pub every_ext : (n : ℕ) (p q : ℕ → Bool) → ((i : ℕ) → i < n → p i ≡ q i) → every n p ≡ every n q
unfolding every
every_ext zero p q e = refl
every_ext (suc n) p q e =
    ap₂ ◌&&◌ (e zero (zero-lt-suc n)) (every_ext n (λ i. p (suc i)) (λ i. q (suc i)) (λ i h. e (suc i) (suc-le-suc h)))

-- A shorter range.
pub every_fewer : (n k : ℕ) (p : ℕ → Bool) → n ≤ k → every k p ≡ true → every n p ≡ true
every_fewer n k p h e = every_of n p (λ i l. every_at k p e i (le_trans l h))

-- Two tests at once.
pub every_and : (n : ℕ) (p q : ℕ → Bool) → every n (λ i. p i && q i) ≡ (every n p && every n q)
every_and n p q =
    same_test (every n (λ i. p i && q i)) (every n p && every n q)
    (λ e. and_of (every n p) (every n q) (every_of n p (λ i h. and_left (p i) (q i) (at e i h))) (every_of n q (λ i h. and_right (p i) (q i) (at e i h))))
    (λ e. every_of n (λ i. p i && q i) (λ i h. and_of (p i) (q i) (every_at n p (and_left (every n p) (every n q) e) i h) (every_at n q (and_right (every n p) (every n q) e) i h)))
  where
    at : every n (λ i. p i && q i) ≡ true → (i : ℕ) → i < n → (p i && q i) ≡ true
    at = every_at n (λ i. p i && q i)

-- Two ranges, one after the other.
pub every_add : (m n : ℕ) (p : ℕ → Bool) → every (m + n) p ≡ (every m p && every n (λ i. p (m + i)))
unfolding every
every_add zero n p = ap (λ (k : ℕ). every k p) (zero-add n) ∙ ap (every n) (fun_ext (λ i. ap p (sym (zero-add i))))
every_add (suc m) n p =
    ap (λ (k : ℕ). every k p) (suc-add m n)
    ∙ ap (λ (b : Bool). p zero && b) (every_add m n (λ i. p (suc i)))
    ∙ sym (and_assoc (p zero) (every m (λ i. p (suc i))) (every n (λ i. p (suc (m + i)))))
    ∙ ap (λ (b : Bool). (p zero && every m (λ i. p (suc i))) && b) (ap (every n) (fun_ext (λ i. ap p (sym (suc-add m i)))))

-- n rows of k numbers.
pub every-rows : (n k : ℕ) (p : ℕ → Bool) → every n (λ r. every k (λ i. p (r * k + i))) ≡ every (n * k) p
unfolding every
every-rows zero k p = ap (λ (m : ℕ). every m p) (sym (zero-mul k))
every-rows (suc n) k p =
    ap₂ ◌&&◌ (ap (every k) (fun_ext (λ i. ap p (ap (λ (x : ℕ). x + i) (zero-mul k) ∙ zero-add i))))
    (ap (every n) (fun_ext (λ r. ap (every k) (fun_ext (λ i. ap p (row r i))))) ∙ every-rows n k (λ j. p (k + j)))
    ∙ sym (every_add k (n * k) p)
    ∙ ap (λ (m : ℕ). every m p) (add_comm k (n * k) ∙ sym (suc-mul n k))
  where
    row : (r i : ℕ) → suc r * k + i ≡ k + (r * k + i)
    row r i = ap (λ (x : ℕ). x + i) (suc-mul r k ∙ add_comm (r * k) k) ∙ add_assoc k (r * k) i

-- A range cut at k, where nothing from k on fails.
pub every_capped : (n k : ℕ) (p : ℕ → Bool) → ((i : ℕ) → k ≤ i → p i ≡ true) → every (min n k) p ≡ every n p
every_capped n k p past =
    same_test (every (min n k) p) (every n p)
    (λ e. every_of n p (λ i h. ⊎_elim (λ l. every_at (min n k) p e i (omega arith)) (past i) (lt_or_le i k)))
    (every_fewer (min n k) n p (omega arith))

-- ---- `every`: the turns of a loop (`every_none` at its start)

-- A loop that gathers with `&` and does not leave: its start,
pub every_start : (p : ℕ → Bool) → true ≡ every 0 p
every_start p = sym (every_none p)

-- one more turn,
pub every_acc : (n : ℕ) (p : ℕ → Bool) (b : Bool) → b ≡ every n p → (b && p n) ≡ every (n + 1) p
every_acc n p b e =
    ap (λ (a : Bool). a && p n) e ∙ sym (every_snoc n p) ∙ ap (λ (k : ℕ). every k p) (sym (add-one n))

-- the same where a callee gives the test's answer,
pub every_told : (n : ℕ) (p : ℕ → Bool) (b r : Bool) → b ≡ every n p → r ≡ p n → (b && r) ≡ every (n + 1) p
every_told n p b r e h = ap (λ (t : Bool). b && t) h ∙ every_acc n p b e

-- and its end.
pub every_done : (n : ℕ) (p : ℕ → Bool) (i : ℕ) (b : Bool) → i ≤ n → n ≤ i → b ≡ every i p → b ≡ every n p
every_done n p i b l g e = let q : i ≡ n = omega arith in e ∙ ap (λ (k : ℕ). every k p) q

-- ---- `any`: a range and its numbers

pub any_none : (p : ℕ → Bool) → any 0 p ≡ false
unfolding any
any_none p = refl

-- Some number below n passes exactly where it is not so that each fails.
pub any_every : (n : ℕ) (p : ℕ → Bool) → any n p ≡ not (every n (λ i. not (p i)))
unfolding any every
any_every zero p = refl
any_every (suc n) p = ap (λ (b : Bool). p zero || b) (any_every n (λ i. p (suc i))) ∙ dual (p zero) (every n (λ i. not (p (suc i))))
  where
    dual : (a b : Bool) → (a || not b) ≡ not (not a && b)
    dual true b = refl
    dual false b = refl

-- The last number of a range.
pub any_snoc : (n : ℕ) (p : ℕ → Bool) → any (suc n) p ≡ (any n p || p n)
unfolding any
any_snoc zero p = or-false (p zero)
any_snoc (suc n) p = ap (λ (b : Bool). p zero || b) (any_snoc n (λ i. p (suc i))) ∙ assoc (p zero) (any n (λ i. p (suc i))) (p (suc n))
  where
    assoc : (a b c : Bool) → (a || (b || c)) ≡ ((a || b) || c)
    assoc true b c = refl
    assoc false b c = refl

-- Where some number below n passes there is one to name.
pub any_from : (n : ℕ) (p : ℕ → Bool) → any n p ≡ true → (i : ℕ) × (i < n) × (p i ≡ true)
unfolding any
any_from zero p e = absurd (passes_fails (any 0 p) e (any_none p))
any_from (suc n) p e =
    ⊎_elim (λ h. (zero, zero-lt-suc n, h)) (λ h. let r = any_from n (λ i. p (suc i)) h in (suc r.0, suc-le-suc r.1, r.2))
    (or_cases (p zero) (any n (λ i. p (suc i))) e)

-- One that passes is enough.
pub any_to : (n : ℕ) (p : ℕ → Bool) (i : ℕ) → i < n → p i ≡ true → any n p ≡ true
unfolding any
any_to zero p i h e = absurd (not-suc-le-zero h)
any_to (suc n) p zero h e = or_left (p zero) (any n (λ i. p (suc i))) e
any_to (suc n) p (suc i) h e = or_right (p zero) (any n (λ i. p (suc i))) (any_to n (λ i. p (suc i)) i (le_of_suc-le-suc h) e)

-- Where none passes, i does not.
pub any_at : (n : ℕ) (p : ℕ → Bool) → any n p ≡ false → (i : ℕ) → i < n → p i ≡ false
any_at n p e i h = fails (p i) (λ q. passes_fails (any n p) (any_to n p i h q) e)

-- None passes where whichever is named fails.
pub any_of : (n : ℕ) (p : ℕ → Bool) → ((i : ℕ) → i < n → p i ≡ false) → any n p ≡ false
any_of n p h = fails (any n p) (λ e. let r = any_from n p e in passes_fails (p r.0) r.2 (h r.0 r.1))

-- Tests that agree below n.
pub any_ext : (n : ℕ) (p q : ℕ → Bool) → ((i : ℕ) → i < n → p i ≡ q i) → any n p ≡ any n q
unfolding any
any_ext zero p q e = refl
any_ext (suc n) p q e =
    ap₂ ◌||◌ (e zero (zero-lt-suc n)) (any_ext n (λ i. p (suc i)) (λ i. q (suc i)) (λ i h. e (suc i) (suc-le-suc h)))

-- A range cut at k, where nothing from k on passes.
pub any_capped : (n k : ℕ) (p : ℕ → Bool) → ((i : ℕ) → k ≤ i → p i ≡ false) → any (min n k) p ≡ any n p
any_capped n k p past =
    same_test (any (min n k) p) (any n p)
    (λ e. let r = any_from (min n k) p e in any_to n p r.0 (omega (arith, r.1)) r.2)
    (λ e. let r = any_from n p e in
    ⊎_elim (λ l. any_to (min n k) p r.0 (omega (arith, r.1)) r.2) (λ g. absurd (passes_fails (p r.0) r.2 (past r.0 g)))
    (lt_or_le r.0 k))

-- ---- `any`: the turns of a loop (`any_none` at its start)

-- A loop that gathers with `|` and does not leave: one more turn.
pub any_acc : (n : ℕ) (p : ℕ → Bool) (b : Bool) → b ≡ any n p → (b || p n) ≡ any (n + 1) p
any_acc n p b e = ap (λ (a : Bool). a || p n) e ∙ sym (any_snoc n p) ∙ ap (λ (k : ℕ). any k p) (sym (add-one n))
