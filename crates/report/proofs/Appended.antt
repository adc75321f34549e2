-- Bytes appended to a list from a place on, and parts one after the other.
use Prim.Native.Nat.{ℕ, suc, ◌+◌, ◌-◌, ◌≤◌}
use mathlib.Core.Path.{◌≡◌, refl, sym, ap, ◌∙◌, subst}
use mathlib.Core.List.{List, [], ◌∷◌, ◌++◌, append-nil, append_assoc}
use borrow.Rule.Slice.PartMut.{put_mid, Post-is}
use native.Mathlib.Nat.{add-zero, zero-add, suc-add, add-suc}
use native.Mathlib.Omega.{arith}
use lib.ListN.{length, set, take, drop, length-append}
use lib.Seq.{sets, sets-eq}
use Rattle.report.specs.Lines.{PutAt}

sets_append : (xs : List ℕ) (at : ℕ) (a b : List ℕ) → sets xs at (a ++ b) ≡ sets (sets xs at a) (at + length a) b
sets_append xs at [] b = ap (λ (k : ℕ). sets xs k b) (sym (add-zero at))
sets_append xs at (v ∷ a) b =
    sets_append (set xs at v) (suc at) a b
    ∙ ap (λ (k : ℕ). sets (sets (set xs at v) (suc at) a) k b) (suc-add at (length a) ∙ sym (add-suc at (length a)))

-- ---- a part that becomes the bytes

pub copied : (xs bytes ys : List ℕ) (at : ℕ) → at + length bytes ≤ length xs → ys ≡ bytes
    → PutAt xs at bytes (put_mid at (at + length bytes - at) xs ys) (at + length bytes)
copied xs bytes ys at h e =
    let after = Post-is at (at + length bytes) xs (omega arith) in
    record {
      next = refl;
      left =
          ap (λ (l : List ℕ). put_mid at (at + length bytes - at) xs l) e ∙ ap (λ (l : List ℕ). take at xs ++ (bytes ++ l)) after
          ∙ sym (append_assoc (take at xs) bytes (drop (at + length bytes) xs)) ∙ sym (sets-eq bytes xs at h);
    }

-- ---- parts one after the other

module _ {xs ys zs : List ℕ} {at r s : ℕ} (a b : List ℕ) where
  pub both_parts : PutAt xs at a ys r → PutAt ys r b zs s → PutAt xs at (a ++ b) zs s
  both_parts e f = record {
    next = let l = length-append a b in let p = e.next in let q = f.next in omega (arith, l, p, q);
    left =
        f.left ∙ ap (λ (k : ℕ). sets ys k b) e.next ∙ ap (λ (l : List ℕ). sets l (at + length a) b) e.left
        ∙ sym (sets_append xs at a b);
  }

pub last_part : {xs ys : List ℕ} {at r : ℕ} (a : List ℕ) → PutAt xs at a ys r → PutAt xs at (a ++ []) ys r
last_part {xs} {ys} {at} {r} a e = subst (λ (l : List ℕ). PutAt xs at l ys r) (sym (append-nil a)) e

-- From the start on: the whole stands there, and after it what stood there.
pub all_parts : {xs ys whole : List ℕ} {r : ℕ} → PutAt xs 0 whole ys r → r ≤ length xs → (r ≡ length whole) × (ys ≡ whole ++ drop r xs)
all_parts {xs} {ys} {whole} {r} e h =
    let q : r ≡ length whole = e.next ∙ zero-add (length whole) in
    let fits : 0 + length whole ≤ length xs = omega (arith, q, h) in
    (q, e.left ∙ sets-eq whole xs 0 fits ∙ ap (λ (k : ℕ). whole ++ drop k xs) (sym e.next))
