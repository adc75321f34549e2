-- Refusal 20 in the arrays' own terms, as the code meets it: each callee's result is a variable, and what it ensures a
-- premise.
use Prim.Native.Nat.{ℕ, ◌+◌, ◌-◌, ◌*◌, ◌^◌, ◌≤◌, ◌<◌, min}
use mathlib.Core.Path.{◌≡◌, refl, sym, ap, ap₂, ◌∙◌, fun_ext}
use mathlib.Core.Bool.{Bool, true, false, not, ◌&&◌}
use mathlib.Core.List.{List, map}
use native.Mathlib.Nat.{mul-le-mul}
use native.Mathlib.Omega.{arith}
use lib.ListN.{length, get_or}
use lib.Dec.{ltb, leb}
use mir.Val.{Fits}
use mir.Syntax.{w32}
use borrow.Author.Tests.{leb-true, ltb-true, le-leb, not-true, not-false}
use Rattle.lists.specs.Numbers.{every, all, tabulate}
use Rattle.lists.proofs.Tests.{and_left, and_right}
use Rattle.lists.proofs.Every.{every_at, every_and, every-rows}
use Rattle.lists.proofs.Tabulate.{length-tabulate, all_tabulate}
use Rattle.plan.specs.declared.{Template.{Template}, Plan.{Plan}}
use Rattle.plan.specs.Plan.{at}
use Rattle.planrow.specs.Row.{count_in, identifiers_in}
use Rattle.planrow.specs.Lookup.{plan_for, template_at}
use Rattle.planrow.proofs.Fits.{fit_count, fit_identifiers, fit_lookup}
use Rattle.machine.specs.Machine.{box_limits, plan_fits, process_fits, rising, population_fits, well_formed}
use Rattle.machine.specs.State.{Cells, words_from, placed, processes_of, machine_from}
use Rattle.machine.proofs.Places.{rising_places}
use Rattle.machine.proofs.Templates.{plan_few}
use Rattle.population.specs.Arrays.{Sized, arrays_fit, below, parts_fit}

-- ---- the processes

module _ (plan : Plan) (next live : ℕ) (c : Cells) where
  abbrev M : ℕ
  M = plan.identifiers

  pub length_processes : length (processes_of plan.identifiers live c) ≡ live
  unfolding processes_of
  length_processes = length-tabulate live (placed M c)

  rising_arrays : rising (map (λ p. p.serial) (processes_of M live c)) ≡ every (live - 1) (λ i. ltb (get_or c.serials i 0) (get_or c.serials (i + 1) 0))
  unfolding processes_of placed
  rising_arrays = rising_places live (placed M c)

  processes_arrays : all (process_fits plan next) (processes_of M live c)
      ≡ (every live (λ i. ltb (get_or c.serials i 0) next)
      && (every live (λ i. ltb (get_or c.templates i 0) plan.count)
      && (every live (λ i. ltb (get_or c.labels i 0) (2 ^ M))
      && every (live * M) (λ i. ltb (get_or c.tags i 0) next))))
  unfolding process_fits processes_of placed words_from
  processes_arrays =
      all_tabulate (process_fits plan next) live (placed M c)
      ∙ every_and live serial (λ i. template i && (label i && tags i))
      ∙ ap (λ (b : Bool). every live serial && b)
      (every_and live template (λ i. label i && tags i)
      ∙ ap (λ (b : Bool). every live template && b)
      (every_and live label tags
      ∙ ap (λ (b : Bool). every live label && b)
      (ap (every live) (fun_ext (λ p. all_tabulate (λ t. ltb t next) M (λ i. get_or c.tags (p * M + i) 0)))
      ∙ every-rows live M (λ j. ltb (get_or c.tags j 0) next))))
    where
      serial : ℕ → Bool
      serial i = ltb (get_or c.serials i 0) next

      template : ℕ → Bool
      template i = ltb (get_or c.templates i 0) plan.count

      label : ℕ → Bool
      label i = ltb (get_or c.labels i 0) (2 ^ M)

      tags : ℕ → Bool
      tags p = all (λ t. ltb t next) (tabulate M (λ i. get_or c.tags (p * M + i) 0))

  population_arrays : population_fits box_limits plan next (processes_of M live c) ≡ (leb live 128 && arrays_fit plan.count M next live c)
  unfolding population_fits arrays_fit
  population_arrays = ap₂ ◌&&◌ (ap (λ (n : ℕ). leb n 128) length_processes) (ap₂ ◌&&◌ rising_arrays processes_arrays)

  fits_arrays : Fits w32 next → well_formed box_limits (machine_from plan next live c) ≡ (plan_fits plan && (leb live 128 && arrays_fit plan.count M next live c))
  unfolding well_formed machine_from
  fits_arrays h =
      ap (λ (b : Bool). plan_fits plan && b)
      (ap₂ ◌&&◌ (le-leb next 4294967295 (omega arith)) population_arrays)

-- ---- the processes' part, in arrays of document 01's sizes

-- Each of the five tests asks that the places are there.
once : (l u a b d e f : Bool) → (l ≡ true → u ≡ true) → ((l && a) && ((l && b) && ((l && d) && ((l && e) && (u && f))))) ≡ (l && (a && (b && (d && (e && f)))))
once true u a b d e f h = rw (h refl) refl
once false u a b d e f h = refl

-- As many tags as there are places for.
few_tags : (M live : ℕ) → M ≤ 32 → leb live 128 ≡ true → leb (live * M) 4096 ≡ true
few_tags M live few e = let q : live * M ≤ 128 * 32 = mul-le-mul (leb-true live 128 e) few in le-leb (live * M) 4096 (omega arith)

-- The places are there where no more than 128 live.
parts_arrays : (N M next live : ℕ) (c : Cells) → Sized c → M ≤ 32 → parts_fit N M next live c ≡ (leb live 128 && arrays_fit N M next live c)
unfolding parts_fit below arrays_fit
parts_arrays N M next live c sized few =
    ap₂ ◌&&◌ (ap (λ (s : ℕ). leb live s && every (live - 1) (λ i. ltb (get_or c.serials i 0) (get_or c.serials (i + 1) 0))) sized.serials)
    (ap₂ ◌&&◌ (there c.serials 128 live next sized.serials)
    (ap₂ ◌&&◌ (there c.templates 128 live N sized.templates)
    (ap₂ ◌&&◌ (there c.labels 128 live (2 ^ min M 32) sized.labels ∙ ap (λ (m : ℕ). leb live 128 && every live (λ i. ltb (get_or c.labels i 0) (2 ^ m))) (omega arith))
    (there c.tags 4096 (live * M) next sized.tags))))
    ∙ once (leb live 128) (leb (live * M) 4096) _ _ _ _ _ (few_tags M live few)
  where
    there : (xs : List ℕ) (size n bound : ℕ) → length xs ≡ size → (leb n (length xs) && every n (λ i. ltb (get_or xs i 0) bound)) ≡ (leb n size && every n (λ i. ltb (get_or xs i 0) bound))
    there xs size n bound e = ap (λ (s : ℕ). leb n s && every n (λ i. ltb (get_or xs i 0) bound)) e

-- ---- the whole test; g is the answer of `is_fitting`

module _ (row : List ℕ) (g : Bool) (e : g ≡ plan_fits (plan_for row)) (next live : ℕ) (c : Cells) (small : Fits w32 next) where
  pub bad_plan : not g ≡ true → false ≡ well_formed box_limits (machine_from (plan_for row) next live c)
  bad_plan h = sym (fits_arrays (plan_for row) next live c small ∙ ap (λ (b : Bool). b && (leb live 128 && arrays_fit (plan_for row).count (plan_for row).identifiers next live c)) (sym e ∙ not-true g h))

  -- The counts are the row's.
  pub fit_arrays : not g ≡ false → (n m : ℕ) → n ≡ count_in row → m ≡ identifiers_in row → Sized c → (r : Bool)
      → r ≡ parts_fit n m next live c → r ≡ well_formed box_limits (machine_from (plan_for row) next live c)
  fit_arrays h n m en em sized r er =
      er ∙ ap₂ (λ (n m : ℕ). parts_fit n m next live c) (en ∙ sym (fit_count row fits)) m_is
      ∙ parts_arrays (plan_for row).count (plan_for row).identifiers next live c sized (plan_few (plan_for row) fits)
      ∙ sym (fits_arrays (plan_for row) next live c small ∙ ap (λ (b : Bool). b && (leb live 128 && arrays_fit (plan_for row).count (plan_for row).identifiers next live c)) fits)
    where
      fits : plan_fits (plan_for row) ≡ true
      fits = sym e ∙ not-false g h

      m_is : m ≡ (plan_for row).identifiers
      m_is = em ∙ sym (fit_identifiers row fits)

-- ---- what a state that is not bad gives where the arrays and the row are reached into

module _ (plan : Plan) (next live : ℕ) (c : Cells) (well : well_formed box_limits (machine_from plan next live c) ≡ true) where
  pub formed_plan : plan_fits plan ≡ true
  unfolding well_formed machine_from
  formed_plan = and_left (plan_fits plan) _ well

  formed_population : population_fits box_limits plan next (processes_of plan.identifiers live c) ≡ true
  unfolding well_formed machine_from
  formed_population = and_right (leb next 4294967295) _ (and_right (plan_fits plan) _ well)

  formed_arrays : (leb live 128 && arrays_fit plan.count plan.identifiers next live c) ≡ true
  formed_arrays = sym (population_arrays plan next live c) ∙ formed_population

  pub formed_live : live ≤ 128
  formed_live = leb-true live 128 (and_left (leb live 128) _ formed_arrays)

  pub formed_serials : every (live - 1) (λ i. ltb (get_or c.serials i 0) (get_or c.serials (i + 1) 0)) ≡ true
  unfolding arrays_fit
  formed_serials = and_left (every (live - 1) (λ i. ltb (get_or c.serials i 0) (get_or c.serials (i + 1) 0))) _ (and_right (leb live 128) _ formed_arrays)

  pub formed_template : (k : ℕ) → k < live → get_or c.templates k 0 < plan.count
  unfolding arrays_fit
  formed_template k h =
      ltb-true (get_or c.templates k 0) plan.count
      (every_at live (λ i. ltb (get_or c.templates i 0) plan.count)
      (and_left (every live (λ i. ltb (get_or c.templates i 0) plan.count)) _
      (and_right (every live (λ i. ltb (get_or c.serials i 0) next)) _
      (and_right (every (live - 1) (λ i. ltb (get_or c.serials i 0) (get_or c.serials (i + 1) 0))) _
      (and_right (leb live 128) _ formed_arrays)))) k h)

  pub formed_rising : rising (map (λ p. p.serial) (processes_of plan.identifiers live c)) ≡ true
  formed_rising = rising_arrays plan next live c ∙ formed_serials

module _ (row : List ℕ) (next live : ℕ) (c : Cells) (well : well_formed box_limits (machine_from (plan_for row) next live c) ≡ true) where
  -- The number of identifiers is the row's,
  pub formed_identifiers : (plan_for row).identifiers ≡ identifiers_in row
  formed_identifiers = fit_identifiers row (formed_plan (plan_for row) next live c well)

  -- of which there are no more than 32,
  pub formed_few : (k : ℕ) → k ≡ identifiers_in row → 32 < k → ⊥
  formed_few k ek h =
      let few = plan_few (plan_for row) (formed_plan (plan_for row) next live c well) in
      let is = formed_identifiers in
      omega (arith, few, is, ek, h)

  -- and a template below N is found in the row.
  pub formed_lookup : (X : ℕ) → X < (plan_for row).count → template_at row X ≡ at (plan_for row) X
  formed_lookup X h = fit_lookup row (formed_plan (plan_for row) next live c well) X h

  -- The template of the process at place k.
  pub looked_at : (k : ℕ) → k < live → (t : Template) → t ≡ template_at row (get_or c.templates k 0) → t ≡ at (plan_for row) (get_or c.templates k 0)
  looked_at k l t e = e ∙ formed_lookup (get_or c.templates k 0) (formed_template (plan_for row) next live c well k l)
