-- The whole step: the parts are the machine's.
use Prim.Native.Nat.{ℕ, ◌+◌, ◌-◌, ◌≤◌, ◌<◌}
use mathlib.Core.Path.{◌≡◌, refl, sym, ap, ap₂, ◌∙◌}
use mathlib.Core.Bool.{Bool, true, false, not, ◌&&◌}
use mathlib.Core.List.{List, ◌++◌, map}
use mathlib.Core.Option.{some}
use native.Mathlib.Numerals.{add-one}
use Rattle.std.proofs.lemmas.List.{length-map}
use native.Mathlib.Omega.{arith}
use lib.Dec.{eqb, leb, ltb}
use lib.ListN.{length, get_or}
use Rattle.lists.specs.Numbers.{all, lowest, tabulate}
use Rattle.plan.specs.declared.Plan.{Plan}
use Rattle.plan.specs.declared.Template.{Template}
use Rattle.plan.specs.Plan.{at}
use Rattle.planrow.specs.Row.{identifiers_in}
use Rattle.planrow.specs.Lookup.{plan_for, template_at}
use Rattle.machine.specs.declared.Answer.{Answer}
use Rattle.machine.specs.declared.Answer.TheVariants.{Done, Refused}
use Rattle.machine.specs.Machine.{Machine, step, box_limits, well_formed, remove, refuse_if, branch_fits, children, spawn, step_answer, stepped, step_by, answer_to}
use Rattle.machine.specs.State.{Cells, placed, processes_of, machine_from, unless_done}
use Rattle.machine.proofs.Outcomes.{settled_refused, settled_done}
use Rattle.machine.proofs.Places.{remove_at}
use Rattle.machine.proofs.Templates.{successors_fit, children_fit, plan_few}
use Rattle.std.specs.Prelude.{Result, Ok, Err, is_ok}
use Rattle.population.specs.declared.Refusal.{Refusal}
use Rattle.population.specs.Refusals.{AmongFirst, Found}
use Rattle.population.specs.declared.Counts.{Counts}
use Rattle.population.specs.Arrays.{cells}
use Rattle.population.specs.Lent.{counts, outcome_from, unless_step, Tried}
use Rattle.population.proofs.Fits.{length_processes, formed_plan, formed_template, formed_identifiers, formed_lookup, looked_at}
use Rattle.population.proofs.Lent.{untouched, tried_same, placed_at, found_none, found_some, found_serial, alone}
use Rattle.population.specs.declared.Child.{Child}
use Rattle.admission.specs.Admission.{all_fitting, refusal_of}
use Rattle.spawning.specs.Spawning.{skipping, Room, Advanced}
use Rattle.stepping.specs.Stepping.{SteppedAt}
use Rattle.spawning.proofs.Moves.{skipping-below, skipping_above}
use Rattle.stepping.proofs.Heirs.{of_plan, of_row, same_children, all_become, spawned}

-- ---- the process at a place

module _ (plan : Plan) (next live : ℕ) (c : Cells) (k branch : ℕ) (well : well_formed box_limits (machine_from plan next live c) ≡ true) (h : k < live) where
  abbrev M : ℕ
  M = plan.identifiers

  abbrev s : ℕ
  s = get_or c.serials k 0

  -- It goes.
  removed : remove s (processes_of M live c) ≡ tabulate (live - 1) (skipping k (placed M c))
  unfolding processes_of placed
  removed =
      ap (λ (n : ℕ). remove s (tabulate n (placed M c))) (omega arith)
      ∙ remove_at s (live - 1) k (placed M c) (skipping k (placed M c)) (omega arith) refl
      (λ i l q. alone plan next live c well k h i (omega arith) q)
      (λ i l. skipping-below k (placed M c) i l)
      (λ i g l. skipping_above k (placed M c) i g ∙ ap (placed M c) (add-one i))

  abbrev X : ℕ
  X = get_or c.templates k 0

  abbrev templates : List ℕ
  templates = children (at plan X).form branch

  abbrev heirs : List Child
  heirs = map (of_plan plan) templates

  abbrev Stepped : Answer → Counts → Cells → Type 0
  Stepped a n d = outcome_from plan a n d ≡ step_by box_limits (machine_from plan next live c) s branch (some (placed M c k))

  module _ (a : Answer) (eq : a ≡ refusal_of M next live (get_or c.labels k 0) (at plan X) branch heirs) where
    answers : step_answer box_limits (machine_from plan next live c) (placed M c k) branch templates ≡ a
    unfolding step_answer machine_from placed refusal_of
    answers =
        ap₂ (order (length (processes_of M live c))) (sym (length-map templates (of_plan plan))) (all_become plan (get_or c.labels k 0) X templates)
        ∙ ap (λ (n : ℕ). order n (length heirs) (all_fitting M (get_or c.labels k 0) (at plan X) heirs)) (length_processes plan next live c)
        ∙ sym eq
      where
        order : ℕ → ℕ → Bool → Answer
        order n count fits =
            refuse_if (not (branch_fits (at plan X).form branch)) 22
            (refuse_if (eqb count 2 && not (leb (n + 1) 128)) 23
            (refuse_if (not (leb (next + count) 4294967295)) 24
            (refuse_if (not fits) 25
            Done)))

    step_refused : (n : ℕ) → a ≡ Refused n → Stepped (Refused n) (counts next live) c
    unfolding step_by machine_from placed
    step_refused n e = sym (settled_refused _ _ _ n (answers ∙ e))

    step_done : (d : Cells) → a ≡ Done → Advanced M next k (live - 1) c heirs d → Stepped Done (counts (next + length heirs) (live - 1 + length heirs)) d
    unfolding step_by stepped machine_from placed
    step_done d z w =
        (λ i. record { answer = Done; machine = record { plan = plan; next = next + length-map templates (of_plan plan) i; live = processes i } })
        ∙ sym (settled_done _ _ _ (answers ∙ z))
      where
        processes : processes_of M (live - 1 + length heirs) d ≡ remove s (processes_of M live c) ++ spawn plan (placed M c k) next templates
        processes = w ∙ sym (ap₂ ◌++◌ removed (spawned plan (placed M c k) next templates))

-- ---- the step as the code meets it, the templates being looked up in the row

module _ (row : List ℕ) (next live : ℕ) (c : Cells) (k branch : ℕ) (h : k < live) (w : ℕ) (ew : w ≡ identifiers_in row) where
  module _ (t : Template) (looked : t ≡ template_at row (get_or c.templates k 0)) (ys : List ℕ) (ey : ys ≡ children t.form branch)
      (born : List Child) (eb : born ≡ map (of_row row) ys)
      (a : Answer) (eq : a ≡ refusal_of w next live (get_or c.labels k 0) t branch born) where
    module _ (well : well_formed box_limits (machine_from (plan_for row) next live c) ≡ true) where
      found : t ≡ at (plan_for row) (get_or c.templates k 0)
      found = looked_at row next live c well k h t looked

      fit : all (λ Y. ltb Y (plan_for row).count) (templates (plan_for row) next live c k branch well h) ≡ true
      fit =
          children_fit (plan_for row).count branch (at (plan_for row) (get_or c.templates k 0)).form
          (successors_fit (plan_for row) (formed_plan (plan_for row) next live c well) (get_or c.templates k 0) (formed_template (plan_for row) next live c well k h))

      M-is : w ≡ (plan_for row).identifiers
      M-is = ew ∙ sym (formed_identifiers row next live c well)

      few : w ≤ 32
      few = rw (M-is) (plan_few (plan_for row) (formed_plan (plan_for row) next live c well))

      heirs-are : born ≡ heirs (plan_for row) next live c k branch well h
      heirs-are =
          eb ∙ ap (map (of_row row)) (ey ∙ ap (λ (t : Template). children t.form branch) found)
          ∙ same_children (plan_for row) row (plan_for row).count _ fit (formed_lookup row next live c well)

      answered : a ≡ refusal_of (plan_for row).identifiers next live (get_or c.labels k 0) (at (plan_for row) (get_or c.templates k 0)) branch (heirs (plan_for row) next live c k branch well h)
      answered =
          eq ∙ ap (λ (M : ℕ). refusal_of M next live (get_or c.labels k 0) t branch born) M-is
          ∙ ap₂ (λ (t : Template) (born : List Child). refusal_of (plan_for row).identifiers next live (get_or c.labels k 0) t branch born) found heirs-are

    pub place_refused : (n : ℕ) → a ≡ Refused n → SteppedAt (plan_for row) (counts next live) c k branch (Refused n) (counts next live) c
    place_refused n e = record {
      means = λ well. step_refused (plan_for row) next live c k branch well h a (answered well) n e;
      same = untouched (plan_for row) (counts next live) c (Refused n);
    }

    pub place_done : (d : Cells) (more count : ℕ) → a ≡ Done → more ≡ length born → count ≡ length born → (w ≤ 32 → Room w next k (live - 1) (length born))
        → (Room w next k (live - 1) (length born) → Advanced w next k (live - 1) c born d)
        → SteppedAt (plan_for row) (counts next live) c k branch Done (counts (next + more) (live - 1 + count)) d
    unfolding unless_done
    place_done d more count z em ec room v = rw (em, ec) (record {
      means = λ well. rw (heirs-are well)
          (step_done (plan_for row) next live c k branch well h a (answered well) d z
          (rw (sym (heirs-are well), sym (M-is well)) (v (room (few well)))));
      same = Prim.tt;
    })

-- ---- 21 and the rest

module _ (row : List ℕ) (next live : ℕ) (xs ts ls gs : List ℕ) (serial branch : ℕ) (sized : length xs ≡ 128) (k : ℕ) (at-k : AmongFirst xs live serial k) where
  abbrev c : Cells
  c = cells xs ts ls gs

  abbrev m : Machine
  m = machine_from (plan_for row) next live c

  place : well_formed box_limits m ≡ true → k ≡ lowest live (λ i. eqb (get_or xs i 0) serial)
  place well = placed_at (plan_for row) next live c well serial k sized at-k

  pub step_gone : live ≤ k → Tried (plan_for row) (counts next live) (cells xs ts ls gs) (step serial branch) (Refused 21) (counts next live) (cells xs ts ls gs)
  unfolding answer_to step_by machine_from
  step_gone l =
      tried_same (plan_for row) (counts next live) c (step serial branch) (Refused 21) (λ well.
      sym (ap (step_by box_limits m serial branch) (found_none (plan_for row).identifiers live c serial k (place well) (omega arith)) ∙ settled_refused _ _ _ 21 refl))

  pub step_live : (a : Answer) (n : Counts) (d : Cells) → k < live → SteppedAt (plan_for row) (counts next live) (cells xs ts ls gs) k branch a n d
      → Tried (plan_for row) (counts next live) (cells xs ts ls gs) (step serial branch) a n d
  unfolding answer_to machine_from unless_step
  step_live a n d l w = record {
    means = λ well.
        w.means well
        ∙ sym (ap₂ (λ (s : ℕ) p. step_by box_limits m s branch p) (sym (found_serial (plan_for row).identifiers live c serial k (place well) (omega arith)))
        (found_some (plan_for row).identifiers live c serial k (place well) (omega arith)));
    same = w.same;
    others = Prim.tt;
  }

-- By what `find` answered, however it is handed on.
module _ (row : List ℕ) (n : Counts) (xs ts ls gs : List ℕ) (serial branch : ℕ) (sized : length xs ≡ 128) (p : Result ℕ Refusal) (found : Found xs n.live serial p) where
  pub step_none : is_ok p ≡ false → (a : Answer) → a ≡ Refused 21 → Tried (plan_for row) n (cells xs ts ls gs) (step serial branch) a n (cells xs ts ls gs)
  step_none = pick p found
    where
      pick : (p : Result ℕ Refusal) → Found xs n.live serial p → is_ok p ≡ false → (a : Answer) → a ≡ Refused 21
          → Tried (plan_for row) n (cells xs ts ls gs) (step serial branch) a n (cells xs ts ls gs)
      pick (Ok k) f h a e = absurd (cc)
      pick (Err refusal) f h a e = rw e (step_gone row n.next n.live xs ts ls gs serial branch sized n.live f.0 (omega arith))

  pub step_found : (k : ℕ) → p ≡ Ok k → (a : Answer) (n' : Counts) (d : Cells) → SteppedAt (plan_for row) n (cells xs ts ls gs) k branch a n' d
      → Tried (plan_for row) n (cells xs ts ls gs) (step serial branch) a n' d
  step_found k e a n' d w = let f = rw e at found in step_live row n.next n.live xs ts ls gs serial branch sized k f.0 a n' d f.1 w

pub step_place : (xs : List ℕ) (live serial : ℕ) (p : Result ℕ Refusal) → Found xs live serial p → (k : ℕ) → p ≡ Ok k → (k < live) × (live ≤ 128)
step_place xs live serial p found k e = let f = rw e at found in (f.1, f.2)
