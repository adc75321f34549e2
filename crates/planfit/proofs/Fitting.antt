-- The plan's part of refusal 20 in the words of a row: the row stands for `plan_for row`.
use Prim.Native.Nat.{ℕ, zero, suc, ◌+◌, ◌^◌, min, ◌≤◌, ◌<◌}
use mathlib.Core.Path.{◌≡◌, refl, sym, ap, ap₂, ◌∙◌}
use mathlib.Core.Logic.{◌⊎◌, inl, inr, ⊎_elim}
use mathlib.Core.Bool.{Bool, true, false, not, ◌&&◌, ◌||◌, and-true, and_assoc}
use mathlib.Core.List.{List, [], ◌∷◌}
use native.Mathlib.Omega.{arith}
use lib.ListN.{length, get_or, take}
use lib.Seq.{get_or-take, length-take-le}
use lib.Dec.{ltb, leb}
use lib.Pow.{pow_mono}
use lib.Bits.{bit_or, and_le_r, or_comm, or_lt, or_add_and}
use borrow.Author.Tests.{le-ltb, lt-ltb, ltb-true, le-leb, lt-leb, leb-true}
use Rattle.lists.specs.Numbers.{every, tabulate, all}
use Rattle.lists.proofs.Tests.{lt_or_le, and_left, and_right, and_of, fails, passes_fails, same_test}
use Rattle.lists.proofs.Every.{every_ext, every_and, every_told, every_done}
use Rattle.lists.proofs.Tabulate.{length-tabulate, get_or-tabulate}
use Rattle.plan.specs.declared.Template.{Template}
use Rattle.plan.specs.Plan.{at, successors, masks, template_fits}
use Rattle.machine.specs.Machine.{plan_fits}
use Rattle.planrow.specs.Row.{count_in, identifiers_in, word_at, form_of, template_of, is_template, template_in, is_plan}
use Rattle.planrow.specs.Lookup.{part_at, word, plan_for}
use Rattle.planrow.proofs.Reading.{plan-template}
use Rattle.planrow.proofs.Parts.{part-tested, part-template}
use Rattle.planrow.proofs.Lookup.{stands_count, stands_identifiers, stands_at}
use Rattle.planrow.proofs.Fits.{unfit_not}

-- ---- the test, over the words alone

-- The counts n and m are in bounds.
pub record Counted (n m : ℕ) : Type 0 where
  pub some : 1 ≤ n
  pub few : n ≤ 64
  pub narrow : m ≤ 32

-- As the code asks them.
module _ (n m : ℕ) where
  not_below : (a b : ℕ) → leb a b ≡ not (ltb b a)
  not_below a b = ⊎_elim (λ h. rw (lt-leb a b h, lt-ltb b a h)) (λ h. rw (le-leb a b h, le-ltb b a h)) (lt_or_le b a)

  at_least : ltb 0 n ≡ not (ltb n 1)
  at_least = ⊎_elim (λ h. rw (le-ltb 0 n (omega arith), lt-ltb n 1 h)) (λ h. rw (lt-ltb 0 n h, le-ltb n 1 h)) (lt_or_le n 1)

  counts_asked : (ltb 0 n && (leb n 64 && leb m 32)) ≡ not (ltb n 1 || ltb 64 n || ltb 32 m)
  counts_asked = ap₂ ◌&&◌ at_least (ap₂ ◌&&◌ (not_below n 64) (not_below m 32)) ∙ go (ltb n 1) (ltb 64 n) (ltb 32 m)
    where
      go : (a b c : Bool) → (not a && (not b && not c)) ≡ not (a || b || c)
      go true b c = refl
      go false true c = refl
      go false false c = refl

  pub counted : (ltb n 1 || ltb 64 n || ltb 32 m) ≡ false → Counted n m
  counted e =
      let q : (ltb 0 n && (leb n 64 && leb m 32)) ≡ true = counts_asked ∙ ap not e in
      record {
        some = ltb-true 0 n (and_left (ltb 0 n) _ q);
        few = leb-true n 64 (and_left (leb n 64) _ (and_right (ltb 0 n) _ q));
        narrow = leb-true m 32 (and_right (leb n 64) _ (and_right (ltb 0 n) _ q));
      }

module _ (row : List ℕ) where
  -- What is asked of template X beside the counts n and m,
  abbrev pub fits_at : ℕ → ℕ → ℕ → Bool
  fits_at n m X = is_template (word_at row X) && template_fits n m (template_in row X)

  -- of these themselves,
  abbrev counts : ℕ → ℕ → Bool
  counts n m = ltb 0 n && (leb n 64 && leb m 32)

  -- and in all.
  abbrev fits : ℕ → ℕ → Bool
  fits n m = counts n m && every n (fits_at n m)

  -- Of all templates' words the code passes the first n, and has gathered what it asks of those below X.
  module _ (n m : ℕ) (all : List (List ℕ)) (e : all ≡ tabulate 64 (part_at row)) (c : (ltb n 1 || ltb 64 n || ltb 32 m) ≡ false) where
    passed : length (take n all) ≡ n
    passed =
        let few = (counted n m c).few in
        length-take-le n all (omega (arith, ap length e ∙ length-tabulate 64 (part_at row)))

    pub row_more : (X : ℕ) (d : List ℕ) (b r : Bool) → X < length (take n all) → b ≡ every X (fits_at n m)
        → r ≡ (is_template (word (get_or (take n all) X d)) && template_fits n m (template_of (word (get_or (take n all) X d))))
        → (b && r) ≡ every (X + 1) (fits_at n m)
    row_more X d b r h s q =
        every_told X (fits_at n m) b r s
        (q ∙ ap₂ (λ (b : Bool) (t : Template). b && template_fits n m t) (part-tested row X _ part) (part-template row X _ part))
      where
        within : X < n
        within = omega (arith, passed)

        part : get_or (take n all) X d ≡ part_at row X
        part =
            let few = (counted n m c).few in
            get_or-take n all X d within ∙ ap (λ (all : List (List ℕ)). get_or all X d) e
            ∙ get_or-tabulate 64 (part_at row) X d (omega (arith, within))

  abbrev N : ℕ
  N = count_in row

  abbrev M : ℕ
  M = identifiers_in row

  means_words : is_plan row ≡ true → plan_fits (plan_for row) ≡ fits N M
  unfolding plan_fits
  means_words e =
      ap₂ (λ (n m : ℕ). counts n m && every n (λ X. template_fits n m (at (plan_for row) X))) (stands_count row e) (stands_identifiers row e)
      ∙ ap (λ (b : Bool). counts N M && b) (every_ext N _ (fits_at N M) same)
    where
      same : (X : ℕ) → X < N → template_fits N M (at (plan_for row) X) ≡ fits_at N M X
      same X h =
          ap (template_fits N M) (stands_at row e X h)
          ∙ ap (λ (b : Bool). b && template_fits N M (template_in row X)) (sym (plan-template row e X h))

  words_mean : fits N M ≡ true → is_plan row ≡ true
  unfolding is_plan
  words_mean e =
      and_of _ _ (and_left (leb N 64) _ (and_right (ltb 0 N) _ (and_left (counts N M) _ e)))
      (and_left (every N is) _ (sym (every_and N is _) ∙ and_right (counts N M) _ e))
    where
      is : ℕ → Bool
      is X = is_template (word_at row X)

  in_words : plan_fits (plan_for row) ≡ fits N M
  in_words = pick (is_plan row) refl
    where
      pick : (b : Bool) → is_plan row ≡ b → plan_fits (plan_for row) ≡ fits N M
      pick true e = means_words e
      pick false e = unfit_not row e ∙ sym (fails _ (λ f. passes_fails (is_plan row) (words_mean f) e))

  -- As the code meets it: n and m are the row's counts.
  module _ (n m : ℕ) (en : n ≡ count_in row) (em : m ≡ identifiers_in row) where
    by_counts : plan_fits (plan_for row) ≡ fits n m
    by_counts = in_words ∙ sym (ap₂ fits en em)

    pub row_uncounted : (ltb n 1 || ltb 64 n || ltb 32 m) ≡ true → false ≡ plan_fits (plan_for row)
    row_uncounted e =
        sym (by_counts ∙ ap (λ (b : Bool). b && every n (fits_at n m)) (counts_asked n m ∙ ap not e))

    pub row_gathered : (all : List (List ℕ)) → all ≡ tabulate 64 (part_at row) → (ltb n 1 || ltb 64 n || ltb 32 m) ≡ false
        → (i : ℕ) (r : Bool) → i ≤ length (take n all) → length (take n all) ≤ i → r ≡ every i (fits_at n m) → r ≡ plan_fits (plan_for row)
    row_gathered all p c i r a b e =
        let k = counted n m c in
        let l = passed n m all p c in
        every_done n (fits_at n m) i r (omega (arith, l)) (omega (arith, l)) e
        ∙ sym (by_counts ∙ rw (lt-ltb 0 n k.some, le-leb n 64 k.few, le-leb m 32 k.narrow))

-- ---- a template's words

-- The form's successors are those whose words it does not lack.
successors-below : (number y z n : ℕ) → ((ltb number 1 || ltb y n) && (ltb number 2 || ltb z n)) ≡ all (λ Y. ltb Y n) (successors (form_of number y z))
unfolding all successors form_of
successors-below zero y z n = refl
successors-below (suc zero) y z n = refl
successors-below (suc (suc zero)) y z n = ap (λ (b : Bool). ltb y n && b) (sym (and-true (ltb z n)))
successors-below (suc (suc (suc k))) y z n =
    rw (le-ltb (suc (suc (suc k))) 1 (omega arith), le-ltb (suc (suc (suc k))) 2 (omega arith)) (ap (λ (b : Bool). ltb y n && b) (sym (and-true (ltb z n))))

-- A mask is compared with the greatest; every mask is below a power past its width.
pub mask_fits : (mask m full : ℕ) → mask < 2 ^ 32 → full + 1 ≡ 2 ^ min m 32 → leb mask full ≡ ltb mask (2 ^ m)
mask_fits mask m full h e =
    same_test _ _
    (λ t.
    let k : min m 32 ≤ m = omega arith in
    let l = leb-true mask full t in
    let q : 2 ^ min m 32 ≤ 2 ^ m = pow_mono k in
    lt-ltb mask (2 ^ m) (omega (arith, e)))
    (λ t. le-leb mask full (let l = within t (lt_or_le m 32) in omega (arith, e)))
  where
    within : ltb mask (2 ^ m) ≡ true → (m < 32) ⊎ (32 ≤ m) → mask < 2 ^ min m 32
    within t (inl l) = let q : min m 32 ≡ m = omega arith in rw q (ltb-true mask (2 ^ m) t)
    within t (inr l) = let q : min m 32 ≡ 32 = omega arith in rw q h

-- Of two masks both are below a power of 2 exactly where what is in either is.
or_below : (m a b : ℕ) → ltb (bit_or a b) (2 ^ m) ≡ (ltb a (2 ^ m) && ltb b (2 ^ m))
or_below m a b =
    same_test _ _
    (λ e. let h = ltb-true (bit_or a b) (2 ^ m) e in
    and_of _ _ (lt-ltb a (2 ^ m) (omega (arith, le_or a b))) (lt-ltb b (2 ^ m) (omega (arith, le_or b a, or_comm a b))))
    (λ e. lt-ltb _ _ (or_lt m a b (ltb-true a (2 ^ m) (and_left (ltb a (2 ^ m)) _ e)) (ltb-true b (2 ^ m) (and_right (ltb a (2 ^ m)) _ e))))
  where
    le_or : (a b : ℕ) → a ≤ bit_or a b
    le_or a b = omega (arith, or_add_and a b, and_le_r a b)

-- So of those of a template.
masks_below : (m a b c d : ℕ) → ltb (bit_or (bit_or (bit_or a b) c) d) (2 ^ m) ≡ all (λ mask. ltb mask (2 ^ m)) (a ∷ b ∷ c ∷ d ∷ [])
unfolding all
masks_below m a b c d =
    or_below m (bit_or (bit_or a b) c) d
    ∙ ap (λ (t : Bool). t && D) (or_below m (bit_or a b) c ∙ ap (λ (t : Bool). t && C) (or_below m a b))
    ∙ and_assoc (A && B) C D ∙ and_assoc A B (C && D)
    ∙ ap (λ (t : Bool). A && (B && (C && t))) (sym (and-true D))
  where
    A : Bool
    A = ltb a (2 ^ m)

    B : Bool
    B = ltb b (2 ^ m)

    C : Bool
    C = ltb c (2 ^ m)

    D : Bool
    D = ltb d (2 ^ m)

-- t and r are the answers of `is_template` and `is_mask`.
pub template_gathered : (ws : List ℕ) (n m : ℕ) (t r : Bool) → t ≡ is_template (word ws)
    → r ≡ ltb (bit_or (bit_or (bit_or (word ws 3) (word ws 4)) (word ws 5)) (word ws 6)) (2 ^ m)
    → (t && (ltb (word ws 0) 1 || ltb (word ws 1) n) && (ltb (word ws 0) 2 || ltb (word ws 2) n) && r)
    ≡ (is_template (word ws) && template_fits n m (template_of (word ws)))
unfolding template_fits template_of masks
template_gathered ws n m t r et er =
    and_assoc (t && a) b r ∙ and_assoc t a (b && r) ∙ sym (ap (λ (c : Bool). t && c) (and_assoc a b r))
    ∙ (λ i. et i && (successors-below (word ws 0) (word ws 1) (word ws 2) n i && (er ∙ masks_below m (word ws 3) (word ws 4) (word ws 5) (word ws 6)) i))
  where
    a : Bool
    a = ltb (word ws 0) 1 || ltb (word ws 1) n

    b : Bool
    b = ltb (word ws 0) 2 || ltb (word ws 2) n
