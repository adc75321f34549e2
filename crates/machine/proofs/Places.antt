-- The machine finds, removes and relabels a process by its serial; arrays have it at a place. These laws say that the
-- two are the same for processes listed by their places: the process found is the one at the lowest place with that
-- serial, and where the serials rise no other place has it, so removing leaves out that place and relabelling changes it.
use Prim.Native.Nat.{ℕ, zero, suc, ◌+◌, ◌-◌, ◌≤◌, ◌<◌, zero-le, suc-le-suc}
use mathlib.Core.Path.{◌≡◌, refl, sym, ap, ap₂, ◌∙◌, subst}
use mathlib.Core.Bool.{Bool, true, false, cond}
use mathlib.Core.Logic.{⊎_elim}
use mathlib.Core.List.{List, ◌∷◌, map}
use mathlib.Core.Option.{none, some}
use native.Mathlib.Nat.{not-suc-le-zero, le_of_suc-le-suc, zero-lt-suc, lt_trans, eq-or-lt_of_le}
use native.Mathlib.Numerals.{add-one}
use native.Mathlib.Omega.{arith}
use lib.Dec.{eqb, ltb}
use lib.ListN.{get_or}
use borrow.Author.Tests.{ltb-true, eqb-true, eq-eqb, ne_eqb}
use Rattle.lists.specs.Numbers.{every, lowest, tabulate}
use Rattle.lists.proofs.Tests.{lt_or_le, passes_fails}
use Rattle.lists.proofs.Every.{every_at, every_ext}
use Rattle.lists.proofs.Tabulate.{length-tabulate, get_or-tabulate, tabulate_ext, map-tabulate}
use Rattle.machine.specs.Machine.{Process, rising, find, remove, relabel, relabelled}

-- ---- find

-- The process at the lowest place with that serial,
pub find_live : (s n : ℕ) (f : ℕ → Process) → lowest n (λ i. eqb (f i).serial s) < n
    → find s (tabulate n f) ≡ some (f (lowest n (λ i. eqb (f i).serial s)))
unfolding find tabulate lowest
find_live s zero f h = absurd (not-suc-le-zero h)
find_live s (suc n) f h = go (eqb (f zero).serial s) (find_live s n (λ i. f (suc i))) h
  where
    k : ℕ
    k = lowest n (λ i. eqb (f (suc i)).serial s)

    go : (b : Bool) → (k < n → find s (tabulate n (λ i. f (suc i))) ≡ some (f (suc k))) → cond b zero (suc k) < suc n
        → cond b (some (f zero)) (find s (tabulate n (λ i. f (suc i)))) ≡ some (f (cond b zero (suc k)))
    go true later h = refl
    go false later h = later (le_of_suc-le-suc h)

-- and none where no place has it.
pub find_gone : (s n : ℕ) (f : ℕ → Process) → n ≤ lowest n (λ i. eqb (f i).serial s) → find s (tabulate n f) ≡ none
unfolding find tabulate lowest
find_gone s zero f h = refl
find_gone s (suc n) f h = go (eqb (f zero).serial s) (find_gone s n (λ i. f (suc i))) h
  where
    k : ℕ
    k = lowest n (λ i. eqb (f (suc i)).serial s)

    go : (b : Bool) → (n ≤ k → find s (tabulate n (λ i. f (suc i))) ≡ none) → suc n ≤ cond b zero (suc k)
        → cond b (some (f zero)) (find s (tabulate n (λ i. f (suc i)))) ≡ none
    go true later h = absurd (not-suc-le-zero h)
    go false later h = later (le_of_suc-le-suc h)

-- ---- serials that rise

-- Rising, place by place.
pub rising_places : (n : ℕ) (f : ℕ → Process)
    → rising (map (λ p. p.serial) (tabulate n f)) ≡ every (n - 1) (λ i. ltb (f i).serial (f (i + 1)).serial)
unfolding rising
rising_places n f =
    ap rising (map-tabulate (λ p. p.serial) n f)
    ∙ ap (λ (k : ℕ). every (k - 1) (λ i. ltb (get_or xs i 0) (get_or xs (i + 1) 0))) (length-tabulate n x)
    ∙ every_ext (n - 1) (λ i. ltb (get_or xs i 0) (get_or xs (i + 1) 0)) (λ i. ltb (x i) (x (i + 1)))
    (λ i h. ap₂ ltb (get_or-tabulate n x i 0 (omega arith)) (get_or-tabulate n x (i + 1) 0 (omega arith)))
  where
    x : ℕ → ℕ
    x i = (f i).serial

    xs : List ℕ
    xs = tabulate n x

-- A later place has a greater serial.
rising_lt : (n : ℕ) (x : ℕ → ℕ) → every (n - 1) (λ i. ltb (x i) (x (i + 1))) ≡ true → (i j : ℕ) → i < j → j < n → x i < x j
rising_lt n x e i zero l h = absurd (not-suc-le-zero l)
rising_lt n x e i (suc j) l h =
    ⊎_elim (λ q. subst (λ (k : ℕ). x k < x (suc j)) (sym q) last)
    (λ g. lt_trans (rising_lt n x e i j g (omega arith)) last)
    (eq-or-lt_of_le (le_of_suc-le-suc l))
  where
    last : x j < x (suc j)
    last = subst (λ (k : ℕ). x j < x k) (add-one j) (ltb-true (x j) (x (j + 1)) (every_at (n - 1) (λ i. ltb (x i) (x (i + 1))) e j (omega arith)))

-- No two places have one serial.
pub places_differ : (n : ℕ) (f : ℕ → Process) → rising (map (λ p. p.serial) (tabulate n f)) ≡ true
    → (i j : ℕ) → i < n → j < n → (f i).serial ≡ (f j).serial → i ≡ j
places_differ n f e i j hi hj q =
    ⊎_elim (λ l. let r = rising_lt n x rises i j l hj in absurd (omega arith))
    (λ g. ⊎_elim (λ r. sym r) (λ l. let r = rising_lt n x rises j i l hi in absurd (omega arith)) (eq-or-lt_of_le g))
    (lt_or_le i j)
  where
    x : ℕ → ℕ
    x i = (f i).serial

    rises : every (n - 1) (λ i. ltb (x i) (x (i + 1))) ≡ true
    rises = sym (rising_places n f) ∙ e

-- ---- remove

remove_absent : (s n : ℕ) (f : ℕ → Process) → ((i : ℕ) → i < n → (f i).serial ≡ s → ⊥) → remove s (tabulate n f) ≡ tabulate n f
unfolding remove tabulate
remove_absent s zero f d = refl
remove_absent s (suc n) f d =
    ap₂ (λ (b : Bool) (l : List Process). cond b l (f zero ∷ l)) (ne_eqb (f zero).serial s (d zero (zero-lt-suc n)))
    (remove_absent s n (λ i. f (suc i)) (λ i h. d (suc i) (suc-le-suc h)))

-- Where place k alone has the serial, the places below k stay and those above move down by one.
pub remove_at : (s n k : ℕ) (f g : ℕ → Process) → k ≤ n → (f k).serial ≡ s → ((i : ℕ) → i ≤ n → (f i).serial ≡ s → i ≡ k)
    → ((i : ℕ) → i < k → g i ≡ f i) → ((i : ℕ) → k ≤ i → i < n → g i ≡ f (suc i))
    → remove s (tabulate (suc n) f) ≡ tabulate n g
unfolding remove tabulate
remove_at s n zero f g h e alone below above =
    ap (λ (b : Bool). cond b (remove s (tabulate n (λ i. f (suc i)))) (f zero ∷ remove s (tabulate n (λ i. f (suc i))))) (eq-eqb (f zero).serial s e)
    ∙ remove_absent s n (λ i. f (suc i)) (λ i l q. let r = alone (suc i) l q in absurd (omega arith))
    ∙ tabulate_ext n (λ i. f (suc i)) g (λ i l. sym (above i zero-le l))
remove_at s zero (suc k) f g h e alone below above = absurd (not-suc-le-zero h)
remove_at s (suc n) (suc k) f g h e alone below above =
    ap (λ (b : Bool). cond b rest (f zero ∷ rest)) (ne_eqb (f zero).serial s (λ q. let r = alone zero zero-le q in absurd (omega arith)))
    ∙ ap₂ ◌∷◌ (sym (below zero (zero-lt-suc k)))
    (remove_at s n k (λ i. f (suc i)) (λ i. g (suc i)) (le_of_suc-le-suc h) e
    (λ i l q. let r = alone (suc i) (suc-le-suc l) q in omega arith)
    (λ i l. below (suc i) (suc-le-suc l))
    (λ i g l. above (suc i) (suc-le-suc g) (suc-le-suc l)))
  where
    rest : List Process
    rest = remove s (tabulate (suc n) (λ i. f (suc i)))

-- ---- relabel

relabel_each : (s label n : ℕ) (f : ℕ → Process)
    → relabel s label (tabulate n f) ≡ tabulate n (λ i. cond (eqb (f i).serial s) (relabelled (f i) label) (f i))
unfolding relabel tabulate
relabel_each s label zero f = refl
relabel_each s label (suc n) f =
    ap (λ (l : List Process). cond (eqb (f zero).serial s) (relabelled (f zero) label) (f zero) ∷ l) (relabel_each s label n (λ i. f (suc i)))

-- Where place k alone has the serial, it has the new label and the other places stay.
pub relabel_at : (s label n k : ℕ) (f g : ℕ → Process) → (f k).serial ≡ s → ((i : ℕ) → i < n → (f i).serial ≡ s → i ≡ k)
    → g k ≡ relabelled (f k) label → ((i : ℕ) → (i ≡ k → ⊥) → g i ≡ f i)
    → relabel s label (tabulate n f) ≡ tabulate n g
relabel_at s label n k f g e alone here elsewhere =
    relabel_each s label n f
    ∙ tabulate_ext n (λ i. cond (eqb (f i).serial s) (relabelled (f i) label) (f i)) g (λ i h. go i h (eqb (f i).serial s) refl)
  where
    go : (i : ℕ) → i < n → (b : Bool) → eqb (f i).serial s ≡ b → cond b (relabelled (f i) label) (f i) ≡ g i
    go i h true q = let r = alone i h (eqb-true (f i).serial s q) in sym (ap g r ∙ here ∙ ap (λ (j : ℕ). relabelled (f j) label) (sym r))
    go i h false q = sym (elsewhere i (λ r. passes_fails (eqb (f i).serial s) (eq-eqb (f i).serial s (ap (λ (j : ℕ). (f j).serial) r ∙ e)) q))
