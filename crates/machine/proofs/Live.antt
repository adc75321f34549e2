-- The list of live processes read by serial: removing, relabelling and adding a process change what is found at one
-- serial, so the list is a function changed at single places; and how many live.
use Prim.Native.Nat.{ℕ, suc, ◌≤◌}
use native.Mathlib.Omega.{arith}
use mathlib.Core.Path.{◌≡◌, refl, sym, ap, ◌∙◌, fun_ext}
use mathlib.Core.Logic.{◌≢◌}
use mathlib.Core.List.{List, [], ◌∷◌, ◌++◌, append_assoc, append-nil}
use mathlib.Core.Option.{Option, none, some}
use mathlib.Core.Bool.{Bool, true, false, cond}
use lib.Dec.{eqb}
use lib.ListN.{length}
use borrow.Author.Tests.{eqb-true, ne_eqb}
use Rattle.lists.specs.Numbers.{put}
use Rattle.lists.proofs.Put.{put_other, put_all, eqb_self}
use Rattle.plan.specs.declared.Plan.{Plan}
use Rattle.machine.specs.Machine.{Process, find, remove, relabelled, relabel, child, spawn}

-- None is not some.
pub no_some : {A : Type 0} (a : A) → none ≡ some a → ⊥
no_some a e = let z : ◌≡◌ {A = ℕ} 0 1 = cc in omega arith

-- ---- what is found

-- The live processes, each at its serial.
abbrev pub Population : Type 0
Population = ℕ → Option Process

-- The processes of a list, each at its serial.
abbrev pub population : List Process → Population
population live x = find x live

-- After a removal nothing is found at that serial, and elsewhere what was.
pub find-remove : (x s : ℕ) (l : List Process) → find x (remove s l) ≡ put (population l) s none x
unfolding find remove
find-remove x s l = put_all (λ (x : ℕ) (o : Option Process). find x (remove s l) ≡ o) (population l) s none (gone l) (λ x h. kept x h l) x
  where
    gone : (l : List Process) → find s (remove s l) ≡ none
    gone [] = refl
    gone (q ∷ l) = go (eqb q.serial s) refl (gone l)
      where
        go : (b : Bool) → eqb q.serial s ≡ b → find s (remove s l) ≡ none → find s (cond b (remove s l) (q ∷ remove s l)) ≡ none
        go true t r = r
        go false t r = rw t r

    kept : (x : ℕ) → x ≢ s → (l : List Process) → find x (remove s l) ≡ find x l
    kept x h [] = refl
    kept x h (q ∷ l) = go (eqb q.serial s) refl (kept x h l)
      where
        go : (b : Bool) → eqb q.serial s ≡ b → find x (remove s l) ≡ find x l
            → find x (cond b (remove s l) (q ∷ remove s l)) ≡ cond (eqb q.serial x) (some q) (find x l)
        go true t r = rw (ne_eqb q.serial x (λ e. h (sym e ∙ eqb-true q.serial s t))) r
        go false t r = rw r

-- After a relabelling the process with its new label is found at that serial.
pub find-relabel : (x s label : ℕ) (l : List Process) (p : Process) → find s l ≡ some p
    → find x (relabel s label l) ≡ put (population l) s (some (relabelled p label)) x
unfolding find relabel
find-relabel x s label l p e =
    put_all (λ (x : ℕ) (o : Option Process). find x (relabel s label l) ≡ o) (population l) s (some (relabelled p label)) (own l e) (λ x h. kept x h l) x
  where
    own : (l : List Process) → find s l ≡ some p → find s (relabel s label l) ≡ some (relabelled p label)
    own [] e = absurd (no_some p e)
    own (q ∷ l) e = go (eqb q.serial s) refl e (own l)
      where
        go : (c : Bool) → eqb q.serial s ≡ c → cond c (some q) (find s l) ≡ some p
            → (find s l ≡ some p → find s (relabel s label l) ≡ some (relabelled p label))
            → find s (cond c (relabelled q label) q ∷ relabel s label l) ≡ some (relabelled p label)
        go true t e further = let r : q ≡ p = cc in rw (t, r)
        go false t e further = rw t (further e)

    kept : (x : ℕ) → x ≢ s → (l : List Process) → find x (relabel s label l) ≡ find x l
    kept x h [] = refl
    kept x h (q ∷ l) = go (eqb q.serial s) refl (kept x h l)
      where
        go : (c : Bool) → eqb q.serial s ≡ c → find x (relabel s label l) ≡ find x l
            → find x (cond c (relabelled q label) q ∷ relabel s label l) ≡ cond (eqb q.serial x) (some q) (find x l)
        go true t r = rw (ne_eqb q.serial x (λ e. h (sym e ∙ eqb-true q.serial s t))) r
        go false t r = rw r

-- What is found in the first of two lists is found in both together,
pub find_first : (x : ℕ) (l m : List Process) (p : Process) → find x l ≡ some p → find x (l ++ m) ≡ some p
unfolding find
find_first x [] m p e = absurd (no_some p e)
find_first x (q ∷ l) m p e = pick (eqb q.serial x) e (find_first x l m p)
  where
    pick : (b : Bool) → cond b (some q) (find x l) ≡ some p → (find x l ≡ some p → find x (l ++ m) ≡ some p)
        → cond b (some q) (find x (l ++ m)) ≡ some p
    pick true e k = e
    pick false e k = k e

-- and where nothing is found there, what is found in the second.
pub find_second : (x : ℕ) (l m : List Process) → find x l ≡ none → find x (l ++ m) ≡ find x m
unfolding find
find_second x [] m e = refl
find_second x (q ∷ l) m e = pick (eqb q.serial x) e (find_second x l m)
  where
    pick : (b : Bool) → cond b (some q) (find x l) ≡ none → (find x l ≡ none → find x (l ++ m) ≡ find x m)
        → cond b (some q) (find x (l ++ m)) ≡ find x m
    pick true e k = absurd (no_some q (sym e))
    pick false e k = k e

-- A process that is added at the end is found at its serial, if nobody had it.
pub find_last : (x : ℕ) (l : List Process) (c : Process) → find c.serial l ≡ none
    → find x (l ++ (c ∷ [])) ≡ put (population l) c.serial (some c) x
unfolding find
find_last x l c e =
    put_all (λ (x : ℕ) (o : Option Process). find x (l ++ (c ∷ [])) ≡ o) (population l) c.serial (some c)
    (find_second c.serial l (c ∷ []) e ∙ rw eqb_self) (λ x h. kept x h l) x
  where
    kept : (x : ℕ) → x ≢ c.serial → (l : List Process) → find x (l ++ (c ∷ [])) ≡ find x l
    kept x h [] = rw (ne_eqb c.serial x (λ e. h (sym e)))
    kept x h (q ∷ l) = rw (kept x h l)

-- A child of p put in,
abbrev pub arrival : Plan → Process → ℕ → ℕ → Population → Population
arrival plan p c Y P = put P c (some (child plan p c Y))

-- and all of them one by one.
unfoldable pub arrivals : Plan → Process → ℕ → List ℕ → Population → Population
arrivals plan p next [] P = P
arrivals plan p next (Y ∷ rest) P = arrivals plan p (suc next) rest (arrival plan p next Y P)

-- What a step adds to the list arrives so.
pub find-spawn : (plan : Plan) (p : Process) (next : ℕ) (templates : List ℕ) (l : List Process)
    → ((k : ℕ) → next ≤ k → find k l ≡ none)
    → population (l ++ spawn plan p next templates) ≡ arrivals plan p next templates (population l)
unfolding spawn arrivals child
find-spawn plan p next [] l h = rw append-nil
find-spawn plan p next (Y ∷ rest) l h =
    let c : Process = child plan p next Y in
    let e : population (l ++ (c ∷ [])) ≡ put (population l) next (some c) = fun_ext (λ x. find_last x l c (h next (omega arith))) in
    let further : population ((l ++ (c ∷ [])) ++ spawn plan p (suc next) rest) ≡ arrivals plan p (suc next) rest (population (l ++ (c ∷ []))) =
    find-spawn plan p (suc next) rest (l ++ (c ∷ []))
    (λ k le. find_last k l c (h next (omega arith)) ∙ (put_other (population l) next (some c) k (omega arith) ∙ h k (omega arith))) in
    let a : (l ++ (c ∷ [])) ++ spawn plan p (suc next) rest ≡ l ++ (c ∷ spawn plan p (suc next) rest) =
    append_assoc l (c ∷ []) (spawn plan p (suc next) rest) in
    rw (← e, ← a) further

-- ---- how many live

shorter : (s : ℕ) (l : List Process) → length (remove s l) ≤ length l
unfolding remove
shorter s [] = omega arith
shorter s (q ∷ l) = go (eqb q.serial s) (shorter s l)
  where
    go : (b : Bool) → length (remove s l) ≤ length l → length (cond b (remove s l) (q ∷ remove s l)) ≤ suc (length l)
    go true k = omega arith
    go false k = omega arith

-- Fewer after a removal,
pub length-remove : (s : ℕ) (l : List Process) (p : Process) → find s l ≡ some p → suc (length (remove s l)) ≤ length l
unfolding find remove
length-remove s [] p e = absurd (no_some p e)
length-remove s (q ∷ l) p e = pick (eqb q.serial s) e (length-remove s l p) (shorter s l)
  where
    pick : (b : Bool) → cond b (some q) (find s l) ≡ some p
        → (find s l ≡ some p → suc (length (remove s l)) ≤ length l) → length (remove s l) ≤ length l
        → suc (length (cond b (remove s l) (q ∷ remove s l))) ≤ suc (length l)
    pick true e k h = omega arith
    pick false e k h = let z = k e in omega arith

-- As many after a move,
pub length-relabel : (s label : ℕ) (l : List Process) → length (relabel s label l) ≡ length l
unfolding relabel
length-relabel s label [] = refl
length-relabel s label (p ∷ l) = ap suc (length-relabel s label l)

-- and one more for each child.
pub length-spawn : (plan : Plan) (p : Process) (next : ℕ) (templates : List ℕ) → length (spawn plan p next templates) ≡ length templates
unfolding spawn
length-spawn plan p next [] = refl
length-spawn plan p next (Y ∷ rest) = ap suc (length-spawn plan p (suc next) rest)
