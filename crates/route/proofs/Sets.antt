-- Masks over templates made from a test: what is collected, one template alone, and two masks that meet.
use Prim.Native.Nat.{ℕ, zero, suc, ◌≤◌, ◌<◌}
use mathlib.Core.Path.{◌≡◌, refl, sym, ap, ap₂, subst, ◌∙◌}
use mathlib.Core.Logic.{◌⊎◌, inl, inr, ⊎_elim}
use mathlib.Core.Bool.{Bool, true, false}
use native.Mathlib.Nat.{not-suc-le-zero, le_of_suc-le-suc, eq-or-lt_of_le, lt-suc_self, le_trans, le-suc, le_refl}
use lib.Dec.{ltb}
use borrow.Author.Tests.{lt-ltb, eqb-true, eq-eqb}
use Rattle.lists.specs.Joins.{both}
use Rattle.lists.proofs.Tests.{both_left, both_right, both_of, passes_fails, same_test}
use Rattle.lists.proofs.Every.{any_from, any_to}
use Rattle.mask.specs.Mask.{has, plus}
use Rattle.mask.proofs.Items.{has_none, plus-within, plus-has, plus_cases}
use Rattle.route.specs.Route.{equals}
use Rattle.route.specs.Search.{if_so, including, collect, only, meet}

-- ---- one template more, if it is wanted

pub including_from : (m X : ℕ) (wanted : Bool) (Y : ℕ) → has Y (including m X wanted) ≡ true → (has Y m ≡ true) ⊎ ((Y ≡ X) × (wanted ≡ true))
unfolding including if_so
including_from m X wanted Y e = go (both (ltb X 64) wanted) refl e
  where
    go : (b : Bool) → both (ltb X 64) wanted ≡ b → has Y (if_so b m (λ _. plus m X)) ≡ true → (has Y m ≡ true) ⊎ ((Y ≡ X) × (wanted ≡ true))
    go true w e = ⊎_elim inl (λ q. inr (q, both_right _ _ w)) (plus_cases m X Y e)
    go false w e = inl e

pub including-keeps : (m X : ℕ) (wanted : Bool) (Y : ℕ) → has Y m ≡ true → has Y (including m X wanted) ≡ true
unfolding including if_so
including-keeps m X wanted Y e = go (both (ltb X 64) wanted)
  where
    go : (b : Bool) → has Y (if_so b m (λ _. plus m X)) ≡ true
    go true = plus-within m X Y e
    go false = e

pub including-has : (m X : ℕ) (wanted : Bool) → X < 64 → wanted ≡ true → has X (including m X wanted) ≡ true
unfolding including if_so
including-has m X wanted l w = ap (λ (b : Bool). has X (if_so b m (λ _. plus m X))) (both_of _ _ (lt-ltb X 64 l) w) ∙ plus-has m X

-- ---- what is collected

pub collect_from : (n : ℕ) (test : ℕ → Bool) (X : ℕ) → has X (collect n test) ≡ true → (X < n) × (test X ≡ true)
unfolding collect
collect_from zero test X e = absurd (passes_fails (has X 0) e (has_none X))
collect_from (suc n) test X e = go (collect_from n test X) (including_from (collect n test) n (test n) X e)
  where
    go : (has X (collect n test) ≡ true → (X < n) × (test X ≡ true)) → (has X (collect n test) ≡ true) ⊎ ((X ≡ n) × (test n ≡ true)) → (X < suc n) × (test X ≡ true)
    go ih c = ⊎_elim (λ h. let r = ih h in (le_trans r.0 (le-suc n), r.1))
        (λ h. subst (λ (Y : ℕ). (Y < suc n) × (test Y ≡ true)) (sym h.0) (lt-suc_self n, h.1)) c

pub collect_to : (n : ℕ) (test : ℕ → Bool) (X : ℕ) → n ≤ 64 → X < n → test X ≡ true → has X (collect n test) ≡ true
unfolding collect
collect_to zero test X h l e = absurd (not-suc-le-zero l)
collect_to (suc n) test X h l e = go (collect_to n test X (le_trans (le-suc n) h)) (eq-or-lt_of_le (le_of_suc-le-suc l))
  where
    go : (X < n → test X ≡ true → has X (collect n test) ≡ true) → (X ≡ n) ⊎ (X < n) → has X (including (collect n test) n (test n)) ≡ true
    go ih c = ⊎_elim
        (λ q. subst (λ (Y : ℕ). has Y (including (collect n test) n (test n)) ≡ true) (sym q) (including-has (collect n test) n (test n) h (subst (λ (Y : ℕ). test Y ≡ true) q e)))
        (λ k. including-keeps (collect n test) n (test n) X (ih k e)) c

-- Tests that agree below the limit.
pub collect_ext : (n : ℕ) (p q : ℕ → Bool) → ((X : ℕ) → X < n → p X ≡ q X) → collect n p ≡ collect n q
unfolding collect
collect_ext zero p q e = refl
collect_ext (suc n) p q e =
    ap₂ (λ (m : ℕ) (b : Bool). including m n b) (collect_ext n p q (λ X l. e X (le_trans l (le-suc n)))) (e n (lt-suc_self n))

-- ---- as bars: below 64 the mask says what the test says

pub collect_bar : (test : ℕ → Bool) (X : ℕ) → X < 64 → has X (collect 64 test) ≡ test X
collect_bar test X l = same_test (has X (collect 64 test)) (test X) (λ e. (collect_from 64 test X e).1) (λ e. collect_to 64 test X (le_refl 64) l e)

pub only_bar : (A X : ℕ) → X < 64 → has X (only A) ≡ equals A X
unfolding only
only_bar A X l = same_test (has X (only A)) (equals A X)
    (λ e. ⊎_elim (λ z. absurd (passes_fails (has X 0) z (has_none X))) (λ h. eq-eqb X A h.0) (including_from 0 A true X e))
    (λ e. let q = eqb-true X A e in subst (λ (Y : ℕ). has X (only Y) ≡ true) q (including-has 0 X true l refl))

-- ---- two masks that meet

pub meet_from : (m n : ℕ) → meet m n ≡ true → (X : ℕ) × (X < 64) × (has X m ≡ true) × (has X n ≡ true)
unfolding meet
meet_from m n e = let r = any_from 64 (λ X. both (has X m) (has X n)) e in (r.0, r.1, both_left _ _ r.2, both_right _ _ r.2)

pub meet_to : (m n X : ℕ) → X < 64 → has X m ≡ true → has X n ≡ true → meet m n ≡ true
unfolding meet
meet_to m n X l e h = any_to 64 (λ X. both (has X m) (has X n)) X l (both_of _ _ e h)
