-- The small steps of the code, each as the code meets it: what its calls gave are variables, and what they ensure are
-- premises.
use Prim.Native.Nat.{ℕ, zero, suc, ◌+◌, ◌^◌, ◌<◌, ◌≤◌}
use mathlib.Core.Path.{◌≡◌, refl, sym, ap, ap₂, ◌∙◌, fun_ext}
use mathlib.Core.Logic.{⊎_elim}
use mathlib.Core.List.{List, [], ◌∷◌}
use mathlib.Core.Bool.{Bool, true, false, not, ◌&&◌, ◌||◌, or-false, or_assoc}
use native.Mathlib.Nat.{lt_of_le_of_lt, zero-add}
use native.Mathlib.Numerals.{add-one}
use native.Mathlib.Omega.{arith}
use lib.Dec.{eqb}
use lib.Bits.{bit_and, and_le_l}
use lib.ListN.{get_or}
use denote.Bor.{Bor}
use borrow.Author.Tests.{eqb-true, eq-eqb, not-true, not-false}
use Rattle.std.specs.List.{fold, list_any, range_with_len}
use Rattle.lists.specs.Numbers.{any}
use Rattle.lists.specs.Joins.{both, either}
use Rattle.lists.proofs.Tests.{and_of, same_test, passes_fails, fails, bool?}
use Rattle.lists.proofs.Every.{any_at}
use Rattle.mask.specs.Mask.{has}
use Rattle.mask.proofs.Items.{has_and, has_none}
use Rattle.mask.proofs.Width.{empty}
use Rattle.plan.specs.declared.Form.{Form}
use Rattle.plan.specs.declared.Plan.{Plan}
use Rattle.plan.specs.Plan.{at, successors}
use Rattle.route.specs.declared.Target.{Target}
use Rattle.route.specs.declared.Targets.{Targets}
use Rattle.route.specs.declared.Forks.{Forks}
use Rattle.route.specs.Search.{in_mask, collect, meet, reach, is_way, ways, targets, widened, extended, crosses, branches_cross, on_branches, fork_crosses, any_in}
use Rattle.route.specs.declared.Layout.{Layout}
use Rattle.route.specs.Lent.{laid_out, laid}
use Rattle.relations.specs.declared.Search.{Search}
use Rattle.route.proofs.Lent.{laid_form, laid_past}
use Rattle.route.proofs.Sets.{meet_from}
use Rattle.route.proofs.Steps.{not_included}

-- ---- masks of templates

pub meet_is : (m n : ℕ) → m < 2 ^ 64 → not (eqb (bit_and m n) 0) ≡ meet m n
unfolding meet both
meet_is m n l = same_test (not (eqb (bit_and m n) 0)) (meet m n)
    (λ e. ⊎_elim (λ h. h)
    (λ f. absurd (passes_fails (eqb (bit_and m n) 0)
    (eq-eqb (bit_and m n) 0 (empty 64 (bit_and m n) (lt_of_le_of_lt (and_le_l m n) l) (λ i h. has_and i m n ∙ any_at 64 (λ X. both (has X m) (has X n)) f i h)))
    (not-true (eqb (bit_and m n) 0) e)))
    (bool? (meet m n)))
    (λ e. let w = meet_from m n e in
    ap not (fails (eqb (bit_and m n) 0) (λ z. passes_fails (has w.0 (bit_and m n))
    (has_and w.0 m n ∙ and_of (has w.0 m) (has w.0 n) w.2 w.3)
    (ap (has w.0) (eqb-true (bit_and m n) 0 z) ∙ has_none w.0))))

-- ---- the targets

not_widened : (to : Target) (x : ℕ) (wanted : Bool) → wanted ≡ false → to ≡ widened to x wanted
unfolding widened
not_widened to x wanted e = ap (λ (w : ℕ). record { place = to.place; ways = w }) (not_included to.ways x wanted e)

module _ (plan : Plan) (barred via : ℕ) (to : Targets) (x : ℕ) (v : Bool) (asked : v ≡ has x via) where
  no_way : not v ≡ true → (place : ℕ) → is_way plan barred via place x ≡ false
  unfolding both
  no_way e place = ap (λ (b : Bool). b && has place (reach plan (in_mask barred) x)) (sym asked ∙ not-true v e)

  pub extended_none : not v ≡ true → to ≡ extended plan barred via to x
  unfolding extended
  extended_none e i = record {
    source = not_widened to.source x (is_way plan barred via to.source.place x) (no_way e to.source.place) i;
    sink = not_widened to.sink x (is_way plan barred via to.sink.place x) (no_way e to.sink.place) i;
  }

  module _ (e : not v ≡ false) (m : ℕ) (reached : m ≡ reach plan (in_mask barred) x) where
    way : (place : ℕ) (b : Bool) → b ≡ has place m → b ≡ is_way plan barred via place x
    unfolding both
    way place b h =
        h ∙ ap (has place) reached ∙ sym (ap (λ (u : Bool). u && has place (reach plan (in_mask barred) x)) (sym asked ∙ not-false v e))

    pub extended_some : (a b : Bool) (source sink : Target) → a ≡ has to.source.place m → source ≡ widened to.source x a
        → b ≡ has to.sink.place m → sink ≡ widened to.sink x b
        → ◌≡◌ {A = Targets} (record { source = source; sink = sink }) (extended plan barred via to x)
    unfolding extended
    extended_some a b source sink p q h k i = record {
      source = (q ∙ ap (widened to.source x) (way to.source.place a p)) i;
      sink = (k ∙ ap (widened to.sink x) (way to.sink.place b h)) i;
    }

-- The same of what is sought in a layout.
module _ (s : Search) (via x : ℕ) (v : Bool) (asked : v ≡ has x via) where
  abbrev extension : Search
  extension = record { layout = s.layout; barred = s.barred; to = extended (laid s.layout.now) s.barred via s.to x }

  pub extend_none : not v ≡ true → s ≡ extension
  extend_none e = ap (λ (to : Targets). record { layout = s.layout; barred = s.barred; to = to }) (extended_none (laid s.layout.now) s.barred via s.to x v asked e)

  pub extend_some : not v ≡ false → (m : ℕ) → m ≡ reach (laid s.layout.now) (in_mask s.barred) x → (a b : Bool) (source sink : Target)
      → a ≡ has s.to.source.place m → source ≡ widened s.to.source x a → b ≡ has s.to.sink.place m → sink ≡ widened s.to.sink x b
      → ◌≡◌ {A = Search} (record { layout = s.layout; barred = s.barred; to = record { source = source; sink = sink } }) extension
  extend_some e m reached a b source sink p q h k =
      ap (λ (to : Targets). record { layout = s.layout; barred = s.barred; to = to }) (extended_some (laid s.layout.now) s.barred via s.to x v asked e m reached a b source sink p q h k)

-- What is sought while the loop has found the ways below n.
abbrev pub seeking : Bor Layout → ℕ → ℕ → ℕ → ℕ → ℕ → Search
seeking b barred via S K n = record { layout = b; barred = barred; to = targets n (laid b.now) barred via S K }

module _ (b : Bor Layout) (barred via S K : ℕ) where
  pub seeking_none : ◌≡◌ {A = Search}
      (record { layout = b; barred = barred; to = record { source = record { place = S; ways = 0 }; sink = record { place = K; ways = 0 } } })
      (seeking b barred via S K 0)
  unfolding targets ways collect
  seeking_none = refl

  pub seeking_more : (n : ℕ) (s r : Search) → s ≡ seeking b barred via S K n
      → r ≡ record { layout = s.layout; barred = s.barred; to = extended (laid s.layout.now) s.barred via s.to n } → r ≡ seeking b barred via S K (n + 1)
  unfolding targets ways collect extended widened
  seeking_more n s r e h =
      h
      ∙ ap (λ (u : Search). record { layout = u.layout; barred = u.barred; to = extended (laid u.layout.now) u.barred via u.to n }) e
      ∙ ap (seeking b barred via S K) (sym (add-one n))

  pub seeking_end : (n : ℕ) (s : Search) → n ≤ 64 → 64 ≤ n → s ≡ seeking b barred via S K n → s ≡ seeking b barred via S K 64
  seeking_end n s l g e = let q : n ≡ 64 = omega arith in e ∙ ap (seeking b barred via S K) q

-- ---- the branches of a fork

branches_cross_is : (plan : Plan) (barred : ℕ) (to : Targets) (direct passing : Bool) (y z m n : ℕ) (a b : Bool)
    → m ≡ reach plan (in_mask barred) y → n ≡ reach plan (in_mask barred) z → a ≡ crosses to direct passing m n → b ≡ crosses to direct passing n m
    → (a || b) ≡ branches_cross plan barred to direct passing y z
unfolding branches_cross either
branches_cross_is plan barred to direct passing y z m n a b p q h k =
    ap₂ ◌||◌ h k ∙ (λ i. crosses to direct passing (p i) (q i) || crosses to direct passing (q i) (p i))

module _ (first second : List ℕ) (barred : ℕ) (to : Targets) (forks : Forks) (x : ℕ) (v : Bool) (asked : v ≡ has x forks.reached) where
  abbrev crossing : Plan → Bool → Bool
  crossing plan b = b && on_branches (at plan x).form (branches_cross plan barred to (has x forks.direct) (has x forks.passing))

  pub fork_unreached : not v ≡ true → false ≡ fork_crosses (laid_out first second) barred to forks x
  unfolding fork_crosses both
  fork_unreached e = sym (ap (crossing (laid_out first second)) (sym asked ∙ not-true v e))

  pub fork_reached : not v ≡ false → x < 64 → (a b : Bool) (m n : ℕ) (r s : Bool) → a ≡ has x forks.direct → b ≡ has x forks.passing
      → m ≡ reach (laid_out first second) (in_mask barred) (get_or first x 0) → n ≡ reach (laid_out first second) (in_mask barred) (get_or second x 0)
      → r ≡ crosses to a b m n → s ≡ crosses to a b n m → (t : Bool) → t ≡ (r || s) → t ≡ fork_crosses (laid_out first second) barred to forks x
  unfolding fork_crosses both
  fork_reached e l a b m n r s h k p q w y t z =
      z ∙ branches_cross_is (laid_out first second) barred to a b (get_or first x 0) (get_or second x 0) m n r s p q w y
      ∙ ap₂ (λ (u s : Bool). branches_cross (laid_out first second) barred to u s (get_or first x 0) (get_or second x 0)) h k
      ∙ sym (ap (λ (form : Form). on_branches form (branches_cross (laid_out first second) barred to (has x forks.direct) (has x forks.passing))) (laid_form first second x l))
      ∙ sym (ap (crossing (laid_out first second)) (sym asked ∙ not-false v e))

-- ---- a loop that tries every number, and the successors of a template

any_listed : (n a : ℕ) (test : ℕ → Bool) → list_any test (range_with_len a n) ≡ any n (λ i. test (a + i))
unfolding any
any_listed zero a test = refl
any_listed (suc n) a test = ap₂ ◌||◌ (ap test here) (any_listed n (a + 1) test ∙ ap (any n) (fun_ext (λ i. ap test (next i))))
  where
    here : a ≡ a + 0
    here = omega arith

    next : (i : ℕ) → a + 1 + i ≡ a + suc i
    next i = omega arith

any_folded : (test : ℕ → Bool) (found : Bool) (xs : List ℕ) → fold (λ b x. b || test x) found xs ≡ (found || list_any test xs)
any_folded test found [] = sym (or-false found)
any_folded test found (x ∷ xs) = any_folded test (found || test x) xs ∙ or_assoc found (test x) (list_any test xs)

pub any_from_0 : (n : ℕ) (test : ℕ → Bool) → list_any test (range_with_len 0 n) ≡ any n test
any_from_0 n test = any_listed n 0 test ∙ ap (any n) (fun_ext (λ i. ap test (zero-add i)))

pub any_gathered : (n : ℕ) (test : ℕ → Bool) → fold (λ b x. b || test x) false (range_with_len 0 n) ≡ any n test
any_gathered n test = any_folded test false (range_with_len 0 n) ∙ any_from_0 n test

module _ (first second : List ℕ) (test : ℕ → Bool) (x : ℕ) where
  pub none_leads : 64 ≤ x → false ≡ any_in test (successors (at (laid_out first second) x).form)
  unfolding any_in successors
  none_leads h = sym (ap (λ (form : Form). any_in test (successors form)) (laid_past first second x h))

  pub either_leads : x < 64 → (a b r : Bool) → a ≡ test (get_or first x 0) → b ≡ test (get_or second x 0) → r ≡ (a || b)
      → r ≡ any_in test (successors (at (laid_out first second) x).form)
  unfolding any_in successors either
  either_leads l a b r h k e =
      e ∙ ap₂ ◌||◌ h (k ∙ sym (or-false (test (get_or second x 0))))
      ∙ sym (ap (λ (form : Form). any_in test (successors form)) (laid_form first second x l))
