-- The calls on lent arrays, up to where each call's own refusals begin: 20, and where a serial is found or is not.
-- As the code meets it: k is the place that `find` answers.
use Prim.Native.Nat.{ℕ, ◌≤◌, ◌<◌}
use mathlib.Core.Path.{◌≡◌, refl, sym, ap, ◌∙◌, subst}
use mathlib.Core.Bool.{Bool, true, false, not}
use mathlib.Core.List.{List}
use mathlib.Core.Option.{none, some}
use native.Mathlib.Omega.{arith}
use lib.Dec.{eqb}
use lib.ListN.{length, get_or}
use borrow.Author.Tests.{eqb-true, not-true, not-false}
use Rattle.lists.specs.Numbers.{lowest}
use Rattle.std.proofs.Common.{slice_range}
use Rattle.lists.proofs.Lowest.{lowest-holds, lowest_ext}
use Rattle.lists.proofs.Parts.{first_length, first_at}
use Rattle.plan.specs.declared.Plan.{Plan}
use Rattle.planrow.specs.Row.{identifiers_in}
use Rattle.planrow.specs.Lookup.{plan_for}
use Rattle.ranges.proofs.Ranges.{first_rises}
use Rattle.machine.specs.declared.Answer.{Answer}
use Rattle.machine.specs.declared.Answer.TheVariants.{Done, Delivered, Held, Refused}
use Rattle.machine.specs.Machine.{Call, step, send, raise, lower, box_limits, plan_fits, well_formed, find, settled, if_done, answer_to, run}
use Rattle.machine.specs.State.{Cells, placed, processes_of, machine_from, unless_done}
use Rattle.machine.proofs.Places.{find_live, find_gone, places_differ}
use Rattle.population.specs.declared.Counts.{Counts}
use Rattle.population.specs.Lent.{counts, machine_at, outcome_from, Same, LabelsAlone, unless_step, Did, Tried}
use Rattle.population.specs.Refusals.{AmongFirst}
use Rattle.population.proofs.Fits.{formed_rising, formed_live, formed_serials, formed_few}

-- ---- the ways out of a call

-- What is so is so unless the call is a step.
pub unless_step_lem : (call : Call) (P : Type 0) → P → unless_step call P
unfolding unless_step
unless_step_lem (step s branch) P p = Prim.tt
unless_step_lem (send from to) P p = p
unless_step_lem (raise s i) P p = p
unless_step_lem (lower s i) P p = p

module _ (plan : Plan) (n : Counts) (c : Cells) where
  -- Whatever was answered, nothing was touched.
  pub untouched : (a : Answer) → unless_done a (Same n c n c)
  unfolding unless_done
  untouched Done = Prim.tt
  untouched Delivered = record { same_counts = refl; same_cells = refl }
  untouched Held = record { same_counts = refl; same_cells = refl }
  untouched (Refused k) = record { same_counts = refl; same_cells = refl }

  -- Nothing was touched, so nothing but labels was.
  alone_none : LabelsAlone n c n c
  alone_none = record { counts_stay = refl; serials_stay = refl; templates_stay = refl; tags_stay = refl }

  -- A call that left all as it was.
  pub tried_same : (call : Call) (a : Answer)
      → (well_formed box_limits (machine_at plan n c) ≡ true → outcome_from plan a n c ≡ answer_to box_limits (machine_at plan n c) call)
      → Tried plan n c call a n c
  tried_same call a w = record { means = w; same = untouched a; others = unless_step_lem call _ alone_none }

-- A row of more than 32 identifiers means a bad state.
pub tried_wide : (row : List ℕ) (n : Counts) (c : Cells) (call : Call) (k : ℕ) → k ≡ identifiers_in row → 32 < k
    → Tried (plan_for row) n c call (Refused 20) n c
tried_wide row n c call k ek h =
    tried_same (plan_for row) n c call (Refused 20) (λ well. absurd (formed_few row n.next n.live c well k ek h))

-- What is so of any next serial is so of any counts with so many live.
pub of_live : (P : Counts → Type 0) (live : ℕ) → ((next : ℕ) → P (counts next live)) → (n : Counts) → n.live ≡ live → P n
of_live P live f n e = subst (λ (l : ℕ). P (counts n.next l)) (sym e) (f n.next)

-- ---- 20

-- g is the answer of `is_well_formed`.
module _ (plan : Plan) (n : Counts) (c : Cells) (call : Call) (g : Bool) (eg : g ≡ well_formed box_limits (machine_at plan n c)) where
  pub asked_bad : not g ≡ true → (a : Answer) → a ≡ Refused 20 → Did plan n c call a n c
  unfolding run settled if_done
  asked_bad h a e =
      subst (λ (a : Answer). Did plan n c call a n c) (sym e)
      (record { means = sym (rw (sym eg ∙ not-true g h)); same = untouched plan n c (Refused 20); others = unless_step_lem call _ (alone_none plan n c) })

  pub asked : not g ≡ false → (a : Answer) (n' : Counts) (d : Cells) → Tried plan n c call a n' d → Did plan n c call a n' d
  unfolding run
  asked h a n' d w = record { means = rw (sym eg ∙ not-false g h) (w.means (sym eg ∙ not-false g h)); same = w.same; others = w.others }

-- A plan that does not fit makes every call 20.
pub run_unfit : (plan : Plan) (n : Counts) (c : Cells) (call : Call) → plan_fits plan ≡ false
    → run box_limits (machine_at plan n c) call ≡ outcome_from plan (Refused 20) n c
unfolding run well_formed settled if_done machine_from
run_unfit plan n c call f = rw f

-- ---- where a serial stands

module _ (M live : ℕ) (c : Cells) (s k : ℕ) (ek : k ≡ lowest live (λ i. eqb (get_or c.serials i 0) s)) where
  pub found_none : live ≤ k → find s (processes_of M live c) ≡ none
  unfolding processes_of placed
  found_none h = find_gone s live (placed M c) (subst (λ (k : ℕ). live ≤ k) ek h)

  pub found_some : k < live → find s (processes_of M live c) ≡ some (placed M c k)
  unfolding processes_of placed
  found_some h =
      find_live s live (placed M c) (subst (λ (k : ℕ). k < live) ek h) ∙ ap (λ (k : ℕ). some (placed M c k)) (sym ek)

  -- The serial there is the one asked for.
  pub found_serial : k < live → get_or c.serials k 0 ≡ s
  found_serial h =
      eqb-true (get_or c.serials k 0) s
      (subst (λ (k : ℕ). eqb (get_or c.serials k 0) s ≡ true) (sym ek)
      (lowest-holds live (λ i. eqb (get_or c.serials i 0) s) (subst (λ (k : ℕ). k < live) ek h)))

-- Of a state that is not bad the serials rise, so that what was looked for is found.
module _ (plan : Plan) (next live : ℕ) (c : Cells) (well : well_formed box_limits (machine_from plan next live c) ≡ true) where
  pub placed_at : (s k : ℕ) → length c.serials ≡ 128 → AmongFirst c.serials live s k → k ≡ lowest live (λ i. eqb (get_or c.serials i 0) s)
  placed_at s k sized at =
      at there (first_rises c.serials live there ∙ formed_serials plan next live c well)
      ∙ ap (λ (n : ℕ). lowest n (λ i. eqb (get_or (slice_range c.serials 0 live) i 0) s)) (first_length c.serials live there)
      ∙ lowest_ext live _ _ (λ i h. ap (λ (x : ℕ). eqb x s) (first_at c.serials live there 0 i h))
    where
      there : live ≤ length c.serials
      there = omega (arith, sized, formed_live plan next live c well)

  -- No other place has the serial of a place.
  pub alone : (k : ℕ) → k < live → (i : ℕ) → i < live → get_or c.serials i 0 ≡ get_or c.serials k 0 → i ≡ k
  unfolding placed processes_of
  alone k h i l q = places_differ live (placed plan.identifiers c) (formed_rising plan next live c well) i k l h q
