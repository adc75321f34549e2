-- The definitions of crate scan told in the library's words, and what a comparison that passed tells of lengths.
use Rattle.std.proofs.Common.{◌≡◌, ℕ, suc, ◌+◌, ◌≤◌, ◌<◌, Bool, true, false, ◌&&◌, List, [], ◌∷◌, reverse, length, get_or, take, drop, position, unwrap_or, cond, ltb, Some, None, nat_eq, refl, sym, ap, ◌∙◌, arith, add-one, drop-cons}
use mathlib.Core.Bool.{false≢true}
use lib.Dec.{eqb}
use lib.Pointwise.{pointwise, bytes_decides}
use Rattle.std.proofs.lemmas.List.{length-reverse, reverse-reverse}
use Rattle.std.specs.List.{position_or_len, list_all, zip}
use Rattle.std.specs.Cmp.{nat_eq_equiv}
use Rattle.std.specs.Cmp.Lexicographic.{nat_list_eq_equiv}
use borrow.Author.Tests.{ltb-false}
use Rattle.std.proofs.lemmas.List.Recursion.{is_position_or_len}
use Rattle.scan.specs.Bytes.{before, starts_with, same}
use Rattle.lists.proofs.Tests.{same_test}

-- The list from a place on: its byte, and what follows.
pub at_place : (s : List ℕ) (i : ℕ) → i < length s → drop i s ≡ get_or s i 0 ∷ drop (i + 1) s
at_place s i h = rw (add-one, drop-cons s i 0)

-- ---- `before`

-- No more bytes stand before b than there are.
pub before_le : (b : ℕ) (s : List ℕ) → before b s ≤ length s
unfolding before
before_le b [] = omega arith
before_le b (x ∷ s) = go (before_le b s) (eqb x b) refl
  where
    go : before b s ≤ length s → (t : Bool) → eqb x b ≡ t → before b (x ∷ s) ≤ length (x ∷ s)
    go l true e = rw (e, before) (omega arith)
    go l false e = rw (e, before) (omega arith)

-- The library's word for it.
pub before_position : (b : ℕ) (s : List ℕ) → unwrap_or (position (λ x. nat_eq x b) s) (length s) ≡ before b s
unfolding before
before_position b s = go (position_or_len (λ x. nat_eq x b) s) (is_position_or_len (before b) (λ x. nat_eq x b) refl (λ x xs. let one : suc (before b xs) ≡ 1 + before b xs = omega arith in ap (cond (eqb x b) 0) one) s) (before_le b s)
  where
    at_most : (m k : ℕ) (t : Bool) → ltb m k ≡ t → m ≤ k → unwrap_or (cond t (Some m) None) k ≡ m
    at_most m k true e l = refl
    at_most m k false e l = omega (arith, ltb-false m k e)

    go : (n : ℕ) → before b s ≡ n → before b s ≤ length s → unwrap_or (cond (ltb n (length s)) (Some n) None) (length s) ≡ before b s
    go n e l = rw (← e) (at_most (before b s) (length s) (ltb (before b s) (length s)) refl l)

-- ---- `starts_with`

-- The library's word for it.
pub starts_pointwise : (key s : List ℕ) → pointwise nat_eq key (take (length key) s) ≡ starts_with key s
unfolding starts_with
starts_pointwise [] s = refl
starts_pointwise (k ∷ key) [] = refl
starts_pointwise (k ∷ key) (x ∷ s) = rw (starts_pointwise key s, nat_eq_equiv.symm k x, starts_with)

-- The same, as `strip_prefix` tells it.
pub starts_stripped : (key s : List ℕ) → starts_with key s ≡ pointwise nat_eq (take (length key) s) key
starts_stripped key s = sym (nat_list_eq_equiv.symm (take (length key) s) key ∙ starts_pointwise key s)

-- What begins with a key is at least as long.
pub starts_long : (key s : List ℕ) → starts_with key s ≡ true → length key ≤ length s
unfolding starts_with
starts_long [] s h = omega arith
starts_long (k ∷ key) [] h = absurd (false≢true h)
starts_long (k ∷ key) (x ∷ s) h = go (starts_long key s) (eqb x k) refl
  where
    go : (starts_with key s ≡ true → length key ≤ length s) → (b : Bool) → eqb x k ≡ b → length (k ∷ key) ≤ length (x ∷ s)
    go ih true e = omega (arith, ih (rw (e, starts_with) at h))
    go ih false e = absurd (false≢true (rw (e, starts_with) at h))

-- ---- `same`

-- The library's word for it.
pub same_pointwise : (s t : List ℕ) → pointwise nat_eq s t ≡ same s t
unfolding same
same_pointwise [] [] = refl
same_pointwise [] (y ∷ t) = refl
same_pointwise (x ∷ s) [] = refl
same_pointwise (x ∷ s) (y ∷ t) = ap (λ (b : Bool). eqb x y && b) (same_pointwise s t)

-- Lists of one length that agree pair by pair from the end on are the same.
zipped : (s t : List ℕ) → length s ≡ length t → list_all (λ (p : ℕ × ℕ). nat_eq p.0 p.1) (zip s t) ≡ pointwise nat_eq s t
zipped [] [] h = refl
zipped [] (y ∷ t) h = absurd (omega arith)
zipped (x ∷ s) [] h = absurd (omega arith)
zipped (x ∷ s) (y ∷ t) h = ap (λ (b : Bool). nat_eq x y && b) (zipped s t (omega arith))

same_reversed : (s t : List ℕ) → pointwise nat_eq (reverse s) (reverse t) ≡ pointwise nat_eq s t
same_reversed s t = same_test _ _ (λ e. is_same s t (turned (told_same (reverse s) (reverse t) e))) (λ e. is_same (reverse s) (reverse t) (ap reverse (told_same s t e)))
  where
    is_same : (a b : List ℕ) → a ≡ b → pointwise nat_eq a b ≡ true
    is_same a b = (bytes_decides a b).1

    told_same : (a b : List ℕ) → pointwise nat_eq a b ≡ true → a ≡ b
    told_same a b = (bytes_decides a b).0

    turned : reverse s ≡ reverse t → s ≡ t
    turned e = sym (reverse-reverse s) ∙ ap reverse e ∙ reverse-reverse t

pub same_zipped : (s t : List ℕ) → length s ≡ length t → list_all (λ (p : ℕ × ℕ). nat_eq p.0 p.1) (zip (reverse s) (reverse t)) ≡ same s t
same_zipped s t h =
    zipped (reverse s) (reverse t) (simp length-reverse h) ∙ same_reversed s t ∙ same_pointwise s t
