-- Laws of `put`: a function changed at one number has the new value there and the old ones elsewhere; so what is to be
-- shown of every value is shown of the new one and of each old one.
use Prim.Native.Nat.{ℕ}
use mathlib.Core.Path.{◌≡◌, refl, fun_ext}
use mathlib.Core.Logic.{◌≢◌, ◌⊎◌, inl, inr}
use mathlib.Core.Bool.{Bool, true, false}
use lib.Dec.{eqb}
use borrow.Author.Tests.{eqb-true, eqb-false, eq-eqb, ne_eqb}
use Rattle.lists.specs.Numbers.{put}

-- Two numbers are equal or not. (The test `eqb` and the fact: the kit's eqb-true, eqb-false, eq-eqb and ne_eqb.)
pub same? : (m n : ℕ) → (m ≡ n) ⊎ (m ≢ n)
same? m n = go (eqb m n) refl
  where
    go : (b : Bool) → eqb m n ≡ b → (m ≡ n) ⊎ (m ≢ n)
    go true e = inl (eqb-true m n e)
    go false e = inr (eqb-false m n e)

pub eqb_self : (n : ℕ) → eqb n n ≡ true
eqb_self n = eq-eqb n n refl

module _ {A : Type 0} where
  pub put_same : (f : ℕ → A) (s : ℕ) (v : A) → put f s v s ≡ v
  unfolding put
  put_same f s v = rw eqb_self

  pub put_other : (f : ℕ → A) (s : ℕ) (v : A) (x : ℕ) → x ≢ s → put f s v x ≡ f x
  unfolding put
  put_other f s v x h = rw (ne_eqb x s h)

  -- What is true of the new value and of each old one elsewhere is true of every value.
  pub put_all : (P : ℕ → A → Type 0) (f : ℕ → A) (s : ℕ) (v : A) → P s v → ((x : ℕ) → x ≢ s → P x (f x)) → (x : ℕ) → P x (put f s v x)
  put_all P f s v new old x = go (same? x s)
    where
      go : (x ≡ s) ⊎ (x ≢ s) → P x (put f s v x)
      go (inl e) = rw (e, put_same f s v) new
      go (inr h) = rw (put_other f s v x h) (old x h)

  -- The same for what is true of every two values.
  pub put_all₂ : (P : ℕ → A → ℕ → A → Type 0) (f : ℕ → A) (s : ℕ) (v : A)
      → P s v s v → ((y : ℕ) → y ≢ s → P s v y (f y)) → ((x : ℕ) → x ≢ s → P x (f x) s v) → ((x y : ℕ) → x ≢ s → y ≢ s → P x (f x) y (f y))
      → (x y : ℕ) → P x (put f s v x) y (put f s v y)
  put_all₂ P f s v new-new new-old old-new old-old x y =
      put_all (λ (x : ℕ) (a : A). P x a y (put f s v y)) f s v
      (put_all (λ (y : ℕ) (b : A). P s v y b) f s v new-new new-old y)
      (λ x h. put_all (λ (y : ℕ) (b : A). P x (f x) y b) f s v (old-new x h) (λ y k. old-old x y h k) y)
      x

  -- A value put where it stood changes nothing.
  pub put_id : (f : ℕ → A) (s : ℕ) → put f s (f s) ≡ f
  put_id f s = fun_ext (λ x. put_all (λ (x : ℕ) (v : A). v ≡ f x) f s (f s) refl (λ x h. refl) x)

-- The same for two functions that are changed at one number.
pub put_two : {A B : Type 0} (P : ℕ → A → B → Type 0) (f : ℕ → A) (g : ℕ → B) (s : ℕ) (v : A) (w : B)
    → P s v w → ((x : ℕ) → x ≢ s → P x (f x) (g x)) → (x : ℕ) → P x (put f s v x) (put g s w x)
put_two {A} {B} P f g s v w new old x = go (same? x s)
  where
    go : (x ≡ s) ⊎ (x ≢ s) → P x (put f s v x) (put g s w x)
    go (inl e) = rw (e, put_same f s v, put_same g s w) new
    go (inr h) = rw (put_other f s v x h, put_other g s w x h) (old x h)
