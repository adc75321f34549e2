-- Walks that stop at the first verdict that is not accepted: what it means that one ends accepted, that one ends
-- broken, and the turns of a loop that makes one.
use Prim.Native.Nat.{ℕ, zero, suc, ◌+◌, ◌≤◌, ◌<◌, suc-le-suc, min}
use mathlib.Core.Path.{◌≡◌, refl, sym, ap, subst, ◌∙◌}
use mathlib.Core.Bool.{Bool, true, false, cond, false≢true}
use mathlib.Core.Logic.{◌⊎◌, inl, inr, ⊎_elim}
use mathlib.Core.List.{List, [], ◌∷◌, ◌++◌}
use native.Mathlib.Nat.{not-suc-le-zero, le_of_suc-le-suc, zero-lt-suc, eq-or-lt_of_le}
use native.Mathlib.Numerals.{add-one}
use native.Mathlib.Omega.{arith}
use Rattle.std.specs.Prelude.{Result, Ok, Err, IsErrAnd}
use Rattle.lists.proofs.Tests.{lt_or_le}
use Rattle.plan.specs.Plan.{Among}
use Rattle.rules.specs.Judge.{Fault, Breach, Verdict, Accepted, Broken, Unread, or_else, first_below, first_in}
use Rattle.rules.specs.Rules.{Each}
use Rattle.rules.specs.Broken.{accepted, answered}

-- ---- telling verdicts apart

abbrev IsAccepted : Verdict → Type 0
IsAccepted Accepted = Unit {0}
IsAccepted (Broken b) = ⊥
IsAccepted (Unread f) = ⊥

-- Not unread.
abbrev pub Decided : Verdict → Type 0
Decided Accepted = Unit {0}
Decided (Broken b) = Unit {0}
Decided (Unread f) = ⊥

abbrev breach_or : Breach → Verdict → Breach
breach_or d Accepted = d
breach_or d (Broken b) = b
breach_or d (Unread f) = d

pub broken_accepted : {b : Breach} → Broken b ≡ Accepted → ⊥
broken_accepted e = subst IsAccepted (sym e) tt

pub unread_accepted : {f : Fault} → Unread f ≡ Accepted → ⊥
unread_accepted e = subst IsAccepted (sym e) tt

pub unread_broken : {f : Fault} {b : Breach} → Unread f ≡ Broken b → ⊥
unread_broken e = subst Decided (sym e) tt

pub broken_same : {a b : Breach} → Broken a ≡ Broken b → a ≡ b
broken_same {a} e = ap (breach_or a) e

pub decided_not : (v : Verdict) {f : Fault} → Decided v → v ≡ Unread f → ⊥
decided_not v d e = subst Decided e d

-- ---- a test that breaks a rule

pub test_accepted : (c : Bool) (b : Breach) → cond c (Broken b) Accepted ≡ Accepted → c ≡ false
test_accepted true b e = absurd (broken_accepted e)
test_accepted false b e = refl

pub test_broken : (c : Bool) (a b : Breach) → cond c (Broken a) Accepted ≡ Broken b → (c ≡ true) × (a ≡ b)
test_broken true a b e = (refl, broken_same e)
test_broken false a b e = absurd (broken_accepted (sym e))

pub test_decided : (c : Bool) (b : Breach) → Decided (cond c (Broken b) Accepted)
test_decided true b = tt
test_decided false b = tt

-- ---- one after the other

pub or_accepted : (v w : Verdict) → or_else v w ≡ Accepted → (v ≡ Accepted) × (w ≡ Accepted)
unfolding or_else
or_accepted Accepted w e = (refl, e)
or_accepted (Broken b) w e = absurd (broken_accepted e)
or_accepted (Unread f) w e = absurd (unread_accepted e)

pub or_both : (v w : Verdict) → v ≡ Accepted → w ≡ Accepted → or_else v w ≡ Accepted
unfolding or_else
or_both v w e h = ap (λ (x : Verdict). or_else x w) e ∙ h

pub or_broken : (v w : Verdict) (b : Breach) → or_else v w ≡ Broken b → (v ≡ Broken b) ⊎ ((v ≡ Accepted) × (w ≡ Broken b))
unfolding or_else
or_broken Accepted w b e = inr (refl, e)
or_broken (Broken a) w b e = inl e
or_broken (Unread f) w b e = absurd (unread_broken e)

pub or_decided : (v w : Verdict) → Decided v → Decided w → Decided (or_else v w)
unfolding or_else
or_decided Accepted w d k = k
or_decided (Broken b) w d k = tt
or_decided (Unread f) w d k = absurd d

-- The first stands where it is broken, and the second where the first is accepted.
pub or_first : (v w : Verdict) (b : Breach) → v ≡ Broken b → or_else v w ≡ Broken b
unfolding or_else
or_first v w b e = ap (λ (x : Verdict). or_else x w) e

pub or_second : (v w : Verdict) → v ≡ Accepted → w ≡ or_else v w
unfolding or_else
or_second v w e = sym (ap (λ (x : Verdict). or_else x w) e)

pub or_later : (v w : Verdict) (b : Breach) → v ≡ Accepted → w ≡ Broken b → or_else v w ≡ Broken b
or_later v w b e h = sym (or_second v w e) ∙ h

pub or_last : (v : Verdict) → or_else v Accepted ≡ v
unfolding or_else
or_last Accepted = refl
or_last (Broken b) = refl
or_last (Unread f) = refl

-- The code's test.
pub accepted_is : (v : Verdict) → accepted v ≡ true → v ≡ Accepted
unfolding accepted
accepted_is Accepted e = refl
accepted_is (Broken b) e = absurd (false≢true e)
accepted_is (Unread f) e = absurd (false≢true e)

or_stopped : (v w : Verdict) (a : Bool) → a ≡ accepted v → a ≡ false → v ≡ or_else v w
unfolding accepted or_else
or_stopped Accepted w a t e = absurd (false≢true (sym e ∙ t))
or_stopped (Broken b) w a t e = refl
or_stopped (Unread f) w a t e = refl

-- What is handed on with `?`, s: it stops at the breach of r, and else goes on to the second.
pub handed : (s : Result (Unit {0}) Breach) (b : Breach) → IsErrAnd s (λ e. e ≡ b) → answered s ≡ Broken b
handed (Ok u) b h = absurd h
handed (Err e) b h = ap Broken h

pub or_stops : (r : Result (Unit {0}) Breach) (v w : Verdict) (b : Breach) → answered r ≡ v → r ≡ Err b → (s : Result (Unit {0}) Breach)
    → IsErrAnd s (λ e. e ≡ b) → answered s ≡ or_else v w
or_stops r v w b e h s k = handed s b k ∙ sym (or_first v w b (sym e ∙ ap answered h))

pub or_goes : (r : Result (Unit {0}) Breach) (v w : Verdict) (u : Unit {0}) → answered r ≡ v → r ≡ Ok u → w ≡ or_else v w
or_goes r v w u e h = or_second v w (sym e ∙ ap answered h)

-- ---- numbers rising

pub below_each : (n : ℕ) (f : ℕ → Verdict) → first_below n f ≡ Accepted → (i : ℕ) → i < n → f i ≡ Accepted
unfolding first_below
below_each zero f e i h = absurd (not-suc-le-zero h)
below_each (suc n) f e zero h = (or_accepted (f zero) (first_below n (λ i. f (suc i))) e).0
below_each (suc n) f e (suc i) h = below_each n (λ i. f (suc i)) (or_accepted (f zero) (first_below n (λ i. f (suc i))) e).1 i (le_of_suc-le-suc h)

pub below_all : (n : ℕ) (f : ℕ → Verdict) → ((i : ℕ) → i < n → f i ≡ Accepted) → first_below n f ≡ Accepted
unfolding first_below
below_all zero f h = refl
below_all (suc n) f h = or_both (f zero) (first_below n (λ i. f (suc i))) (h zero (zero-lt-suc n)) (below_all n (λ i. f (suc i)) (λ i l. h (suc i) (suc-le-suc l)))

-- Where the walk stops: the first place that is not accepted.
pub record Stop (n : ℕ) (f : ℕ → Verdict) (b : Breach) : Type 0 where
  pub place : ℕ
  pub inside : place < n
  pub there : f place ≡ Broken b
  pub earlier : (i : ℕ) → i < place → f i ≡ Accepted

later : (n : ℕ) (f : ℕ → Verdict) (b : Breach) → f zero ≡ Accepted → Stop n (λ i. f (suc i)) b → Stop (suc n) f b
later n f b e s = record { place = suc s.place; inside = suc-le-suc s.inside; there = s.there; earlier = go }
  where
    go : (i : ℕ) → i < suc s.place → f i ≡ Accepted
    go zero h = e
    go (suc i) h = s.earlier i (le_of_suc-le-suc h)

pub below_stop : (n : ℕ) (f : ℕ → Verdict) (b : Breach) → first_below n f ≡ Broken b → Stop n f b
unfolding first_below
below_stop zero f b e = absurd (broken_accepted (sym e))
below_stop (suc n) f b e =
    ⊎_elim (λ h. record { place = zero; inside = zero-lt-suc n; there = h; earlier = λ i l. absurd (not-suc-le-zero l) })
    (λ h. later n f b h.0 (below_stop n (λ i. f (suc i)) b h.1))
    (or_broken (f zero) (first_below n (λ i. f (suc i))) b e)

pub below_decided : (n : ℕ) (f : ℕ → Verdict) → ((i : ℕ) → Decided (f i)) → Decided (first_below n f)
unfolding first_below
below_decided zero f d = tt
below_decided (suc n) f d = or_decided (f zero) (first_below n (λ i. f (suc i))) (d zero) (below_decided n (λ i. f (suc i)) (λ i. d (suc i)))

-- ---- numbers rising: the turns of a loop

pub below_none : (f : ℕ → Verdict) → first_below 0 f ≡ Accepted
unfolding first_below
below_none f = refl

-- One more turn of a loop that leaves where it is broken.
pub below_more : (n : ℕ) (f : ℕ → Verdict) → first_below n f ≡ Accepted → f n ≡ Accepted → first_below (n + 1) f ≡ Accepted
below_more n f e h = below_all (n + 1) f (λ i l. ⊎_elim (λ q. ap f q ∙ h) (below_each n f e i) (eq-or-lt_of_le (le_of_suc-le-suc (subst (λ (k : ℕ). suc i ≤ k) (add-one n) l))))

first_at : (n : ℕ) (f : ℕ → Verdict) (i : ℕ) → i < n → ((j : ℕ) → j < i → f j ≡ Accepted) → accepted (f i) ≡ false → f i ≡ first_below n f
unfolding first_below
first_at zero f i h a e = absurd (not-suc-le-zero h)
first_at (suc n) f zero h a e = or_stopped (f zero) (first_below n (λ i. f (suc i))) (accepted (f zero)) refl e
first_at (suc n) f (suc i) h a e =
    first_at n (λ i. f (suc i)) i (le_of_suc-le-suc h) (λ j l. a (suc j) (suc-le-suc l)) e
    ∙ or_second (f zero) (first_below n (λ i. f (suc i))) (a zero (zero-lt-suc i))

-- It leaves: v at i is not accepted.
pub below_leaves : (n : ℕ) (f : ℕ → Verdict) (i : ℕ) (v : Verdict) → i < n → first_below i f ≡ Accepted → v ≡ f i → (a : Bool) → a ≡ accepted v → a ≡ false → v ≡ first_below n f
below_leaves n f i v h p e a t q = e ∙ first_at n f i h (below_each i f p) (ap accepted (sym e) ∙ sym t ∙ q)

-- Broken at i, and accepted before: so is the walk.
pub below_broken : (n : ℕ) (f : ℕ → Verdict) (i : ℕ) (b : Breach) → i < n → ((j : ℕ) → j < i → f j ≡ Accepted) → f i ≡ Broken b → first_below n f ≡ Broken b
unfolding accepted
below_broken n f i b h a e = sym (first_at n f i h a (ap accepted e)) ∙ e

-- It leaves there, with r's breach.
pub below_breaks : (n : ℕ) (f : ℕ → Verdict) (i : ℕ) → i < n → first_below i f ≡ Accepted → (r : Result (Unit {0}) Breach) (b : Breach) → answered r ≡ f i
    → r ≡ Err b → (s : Result (Unit {0}) Breach) → IsErrAnd s (λ e. e ≡ b) → answered s ≡ first_below n f
below_breaks n f i l p r b e h s k = handed s b k ∙ sym (below_broken n f i b l (below_each i f p) (sym e ∙ ap answered h))

-- It ran to the end.
pub below_end : (n : ℕ) (f : ℕ → Verdict) (i : ℕ) → i ≤ n → n ≤ i → first_below i f ≡ Accepted → Accepted ≡ first_below n f
below_end n f i l g e = let q : i ≡ n = omega arith in sym (subst (λ (k : ℕ). first_below k f ≡ Accepted) q e)

-- A walk cut at k ran to the end: from k on each is accepted,
pub below_past : (n k : ℕ) (f : ℕ → Verdict) → ((i : ℕ) → k ≤ i → f i ≡ Accepted) → first_below (min n k) f ≡ Accepted → first_below n f ≡ Accepted
below_past n k f past e = below_all n f (λ i l. ⊎_elim (λ h. below_each (min n k) f e i (omega arith)) (past i) (lt_or_le i k))

-- or each is where that at k is, and the walk was cut after k.
pub below_alike : (n k : ℕ) (f : ℕ → Verdict) → (f k ≡ Accepted → (i : ℕ) → k ≤ i → f i ≡ Accepted) → first_below (min n (suc k)) f ≡ Accepted
    → first_below n f ≡ Accepted
below_alike n k f alike e =
    below_all n f (λ i l. ⊎_elim (λ h. below_each (min n (suc k)) f e i (omega arith)) (λ h. alike (below_each (min n (suc k)) f e k (omega arith)) i h) (lt_or_le i k))

-- ---- a list

-- What holds of each element is carried over to another property,
pub each_map : {A : Type 0} {P Q : A → Type 0} → ((x : A) → P x → Q x) → (l : List A) → Each P l → Each Q l
each_map f [] e = tt
each_map f (x ∷ l) e = (f x e.0, each_map f l e.1)

-- and of a list of numbers it is what holds of all that stand in it.
pub each_among : (P : ℕ → Type 0) (l : List ℕ) → Each P l → (Y : ℕ) → Among Y l → P Y
each_among P [] e Y h = absurd h
each_among P (X ∷ l) e Y h = ⊎_elim (λ q. subst P (sym q) e.0) (each_among P l e.1 Y) h

pub among_each : (P : ℕ → Type 0) (l : List ℕ) → ((Y : ℕ) → Among Y l → P Y) → Each P l
among_each P [] h = tt
among_each P (X ∷ l) h = (h X (inl refl), among_each P l (λ Y k. h Y (inr k)))

module _ {A : Type 0} where
  pub in_each : (l : List A) (f : A → Verdict) → first_in l f ≡ Accepted → Each (λ x. f x ≡ Accepted) l
  unfolding first_in
  in_each [] f e = tt
  in_each (x ∷ l) f e = let r = or_accepted (f x) (first_in l f) e in (r.0, in_each l f r.1)

  pub in_all : (l : List A) (f : A → Verdict) → Each (λ x. f x ≡ Accepted) l → first_in l f ≡ Accepted
  unfolding first_in
  in_all [] f h = refl
  in_all (x ∷ l) f h = or_both (f x) (first_in l f) h.0 (in_all l f h.1)

  pub record StopIn (l : List A) (f : A → Verdict) (b : Breach) : Type 0 where
    pub before : List A
    pub element : A
    pub after : List A
    pub split : l ≡ before ++ (element ∷ after)
    pub there : f element ≡ Broken b
    pub earlier : Each (λ x. f x ≡ Accepted) before

  pub in_stop : (l : List A) (f : A → Verdict) (b : Breach) → first_in l f ≡ Broken b → StopIn l f b
  unfolding first_in
  in_stop [] f b e = absurd (broken_accepted (sym e))
  in_stop (x ∷ l) f b e =
      ⊎_elim (λ h. record { before = []; element = x; after = l; split = refl; there = h; earlier = tt })
      (λ h. let s = in_stop l f b h.1 in record {
        before = x ∷ s.before;
        element = s.element;
        after = s.after;
        split = ap (λ (r : List A). x ∷ r) s.split;
        there = s.there;
        earlier = (h.0, s.earlier);
      })
      (or_broken (f x) (first_in l f) b e)

  pub in_broken : (before : List A) (y : A) (after : List A) (f : A → Verdict) (b : Breach) → Each (λ x. f x ≡ Accepted) before → f y ≡ Broken b
      → first_in (before ++ (y ∷ after)) f ≡ Broken b
  unfolding first_in
  in_broken [] y after f b a e = or_first (f y) (first_in after f) b e
  in_broken (x ∷ before) y after f b a e =
      or_later (f x) (first_in (before ++ (y ∷ after)) f) b a.0 (in_broken before y after f b a.1 e)

  pub in_decided : (l : List A) (f : A → Verdict) → ((x : A) → Decided (f x)) → Decided (first_in l f)
  unfolding first_in
  in_decided [] f d = tt
  in_decided (x ∷ l) f d = or_decided (f x) (first_in l f) (d x) (in_decided l f d)
