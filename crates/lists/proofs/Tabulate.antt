-- Laws of `tabulate` and of `all`: length, elements, the last element, and what is true of each element; and a list that
-- is filled from its front.
use Prim.Native.Nat.{ℕ, zero, suc, ◌+◌, ◌≤◌, ◌<◌, suc-le-suc}
use mathlib.Core.Path.{◌≡◌, refl, sym, ap, ap₂, ◌∙◌, subst}
use mathlib.Core.Bool.{Bool, ◌&&◌}
use mathlib.Core.Logic.{⊎_elim}
use mathlib.Core.List.{List, [], ◌∷◌, ◌++◌, map}
use native.Mathlib.Nat.{not-suc-le-zero, le_of_suc-le-suc, zero-lt-suc}
use native.Mathlib.Omega.{arith}
use lib.ListN.{length, get_or, set, get_or-eq_default}
use lib.Seq.{ext_get_or, get_or-set_same, get_or-set_other}
use Rattle.lists.specs.Numbers.{every, tabulate, all}
use Rattle.lists.proofs.Tests.{lt_or_le}

module _ {A : Type 0} where
  pub length-tabulate : (n : ℕ) (f : ℕ → A) → length (tabulate n f) ≡ n
  unfolding tabulate
  length-tabulate zero f = refl
  length-tabulate (suc n) f = ap suc (length-tabulate n (λ i. f (suc i)))

  pub get_or-tabulate : (n : ℕ) (f : ℕ → A) (i : ℕ) (d : A) → i < n → get_or (tabulate n f) i d ≡ f i
  unfolding tabulate
  get_or-tabulate zero f i d h = absurd (not-suc-le-zero h)
  get_or-tabulate (suc n) f zero d h = refl
  get_or-tabulate (suc n) f (suc i) d h = get_or-tabulate n (λ j. f (suc j)) i d (le_of_suc-le-suc h)

  -- At its end and past it the default stands.
  pub get_or-tabulate_past : (n : ℕ) (f : ℕ → A) (i : ℕ) (d : A) → n ≤ i → get_or (tabulate n f) i d ≡ d
  get_or-tabulate_past n f i d h = get_or-eq_default (tabulate n f) d (subst (λ (k : ℕ). k ≤ i) (sym (length-tabulate n f)) h)

  -- Functions that agree below n.
  pub tabulate_ext : (n : ℕ) (f g : ℕ → A) → ((i : ℕ) → i < n → f i ≡ g i) → tabulate n f ≡ tabulate n g
  unfolding tabulate
  tabulate_ext zero f g e = refl
  tabulate_ext (suc n) f g e =
      ap₂ ◌∷◌ (e zero (zero-lt-suc n)) (tabulate_ext n (λ i. f (suc i)) (λ i. g (suc i)) (λ i h. e (suc i) (suc-le-suc h)))

  -- The last element.
  pub tabulate_snoc : (n : ℕ) (f : ℕ → A) → tabulate (suc n) f ≡ tabulate n f ++ (f n ∷ [])
  unfolding tabulate
  tabulate_snoc zero f = refl
  tabulate_snoc (suc n) f = ap (λ (l : List A). f zero ∷ l) (tabulate_snoc n (λ i. f (suc i)))

  -- A list is made from its elements.
  pub tabulate_get_or : (n : ℕ) (l : List A) (d : A) → length l ≡ n → tabulate n (λ i. get_or l i d) ≡ l
  tabulate_get_or n l d e =
      ext_get_or d (tabulate n (λ i. get_or l i d)) l (length-tabulate n (λ i. get_or l i d) ∙ sym e)
      (λ i h. get_or-tabulate n (λ i. get_or l i d) i d (subst (λ (k : ℕ). i < k) (length-tabulate n (λ i. get_or l i d)) h))

  -- What is true of each element is true of the function below n.
  pub all_tabulate : (p : A → Bool) (n : ℕ) (f : ℕ → A) → all p (tabulate n f) ≡ every n (λ i. p (f i))
  unfolding tabulate all every
  all_tabulate p zero f = refl
  all_tabulate p (suc n) f = ap (λ (b : Bool). p (f zero) && b) (all_tabulate p n (λ i. f (suc i)))

  -- And of any list, by its elements.
  pub all_every : (p : A → Bool) (n : ℕ) (l : List A) (d : A) → length l ≡ n → all p l ≡ every n (λ i. p (get_or l i d))
  all_every p n l d e = ap (all p) (sym (tabulate_get_or n l d e)) ∙ all_tabulate p n (λ i. get_or l i d)

pub map-tabulate : {A B : Type 0} (h : A → B) (n : ℕ) (f : ℕ → A) → map h (tabulate n f) ≡ tabulate n (λ i. h (f i))
unfolding tabulate
map-tabulate h zero f = refl
map-tabulate h (suc n) f = ap (λ l. h (f zero) ∷ l) (map-tabulate h n (λ i. f (suc i)))

-- ---- a list that is filled from its front

pub filled_more : (f : ℕ → ℕ) (xs : List ℕ) (i v : ℕ) → i < length xs → v ≡ f i → ((j : ℕ) → j < i → get_or xs j 0 ≡ f j)
    → (j : ℕ) → j < i + 1 → get_or (set xs i v) j 0 ≡ f j
filled_more f xs i v l q e j h =
    ⊎_elim (λ k. get_or-set_other xs i j v 0 (λ r. omega arith) ∙ e j k)
    (λ k. let r : j ≡ i = omega arith in ap (λ (k : ℕ). get_or (set xs i v) k 0) r ∙ get_or-set_same xs i v 0 l ∙ q ∙ ap f (sym r)) (lt_or_le j i)

pub filled_all : (f : ℕ → ℕ) (xs : List ℕ) (n : ℕ) → length xs ≡ n → ((j : ℕ) → j < n → get_or xs j 0 ≡ f j) → xs ≡ tabulate n f
filled_all f xs n q e =
    ext_get_or 0 xs (tabulate n f) (q ∙ sym (length-tabulate n f))
    (λ i h. let h' : i < n = omega arith in e i h' ∙ sym (get_or-tabulate n f i 0 h'))
