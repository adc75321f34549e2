-- The ways out of a raise or a lower, as the code meets them.
use Prim.Native.Nat.{ℕ, ◌*◌, ◌^◌, ◌≤◌, ◌<◌}
use mathlib.Core.Path.{◌≡◌, refl, sym, ap, ap₂, ◌∙◌}
use mathlib.Core.Bool.{Bool, true, false, not}
use mathlib.Core.List.{List}
use native.Mathlib.Omega.{arith}
use lib.Dec.{eqb, ltb}
use lib.ListN.{length, get_or, set}
use lib.Seq.{get_or-set_same, get_or-set_other}
use borrow.Author.Tests.{ltb-true, not-false}
use Rattle.lists.specs.Numbers.{lowest}
use Rattle.std.specs.Int.Bits.{or_zero_l}
use Rattle.mask.specs.Mask.{plus, without}
use Rattle.mask.specs.Sets.{plus_below}
use Rattle.mask.proofs.Items.{plus-below}
use Rattle.plan.specs.declared.Plan.{Plan}
use Rattle.plan.specs.declared.Template.{Template}
use Rattle.planrow.specs.Row.{identifiers_in}
use Rattle.planrow.specs.Lookup.{plan_for, template_at}
use Rattle.population.specs.Refusals.{AmongFirst}
use Rattle.machine.specs.declared.Answer.{Answer}
use Rattle.machine.specs.declared.Answer.TheVariants.{Done, Refused}
use Rattle.machine.specs.Machine.{Process, Machine, box_limits, well_formed, find, relabel, movable, label_with, move_answer, moved, settled, move_by, answer_to}
use Rattle.machine.specs.State.{Cells, words_from, placed, processes_of, machine_from, unless_done}
use Rattle.machine.proofs.Places.{relabel_at}
use Rattle.machine.proofs.Templates.{plan_few}
use Rattle.machine.proofs.Outcomes.{refuse_done, settled_refused, settled_done}
use Rattle.population.specs.Arrays.{cells}
use Rattle.population.specs.Lent.{counts, Tried}
use Rattle.population.proofs.Fits.{formed_plan, formed_live, formed_identifiers, looked_at}
use Rattle.population.proofs.Lent.{unless_step_lem, tried_same, placed_at, found_none, found_some, found_serial, alone}
use Rattle.labelling.specs.Labelling.{moves, refusal_of}

-- What may be moved is an identifier of the plan's.
not_refused : (M : ℕ) (risk : Bool) (allowed i : ℕ) → Done ≡ refusal_of M risk allowed i → i < M
unfolding refusal_of
not_refused M risk allowed i e = ltb-true i M (not-false (ltb i M) (refuse_done (not (ltb i M)) 27 _ (sym e)).0)

-- ---- the arrays

module _ (plan : Plan) (next live : ℕ) (xs ts ls gs : List ℕ) (well : well_formed box_limits (machine_from plan next live (cells xs ts ls gs)) ≡ true) (k : ℕ) (h : k < live) where
  relabelled_places : (label : ℕ) (ls' : List ℕ) → k < length ls → ls' ≡ set ls k label
      → relabel (get_or xs k 0) label (processes_of plan.identifiers live (cells xs ts ls gs)) ≡ processes_of plan.identifiers live (cells xs ts ls' gs)
  unfolding processes_of placed
  relabelled_places label ls' hl e =
      relabel_at (get_or xs k 0) label live k (placed plan.identifiers (cells xs ts ls gs)) (placed plan.identifiers (cells xs ts ls' gs)) refl
      (λ i l q. alone plan next live (cells xs ts ls gs) well k h i l q)
      (ap (with k) (ap (λ (l : List ℕ). get_or l k 0) e ∙ get_or-set_same ls k label 0 hl))
      (λ i n. ap (with i) (ap (λ (l : List ℕ). get_or l i 0) e ∙ get_or-set_other ls k i label 0 n))
    where
      with : ℕ → ℕ → Process
      with i label = record { serial = get_or xs i 0; template = get_or ts i 0; label = label; tags = words_from plan.identifiers gs (i * plan.identifiers) }

-- ---- the call

move_by_lem : (m : Machine) (present : Bool) (s i : ℕ) → answer_to box_limits m (moves present s i) ≡ move_by m s present i (find s m.live)
unfolding answer_to moves
move_by_lem m true s i = refl
move_by_lem m false s i = refl

module _ (row : List ℕ) (next live : ℕ) (xs ts ls gs : List ℕ) (present : Bool) (s i : ℕ) (sized : length xs ≡ 128) (k : ℕ) (at-k : AmongFirst xs live s k) where
  abbrev c : Cells
  c = cells xs ts ls gs

  abbrev m : Machine
  m = machine_from (plan_for row) next live c

  abbrev M : ℕ
  M = (plan_for row).identifiers

  found : well_formed box_limits m ≡ true → k ≡ lowest live (λ i. eqb (get_or xs i 0) s)
  found well = placed_at (plan_for row) next live c well s k sized at-k

  pub move_gone : live ≤ k → Tried (plan_for row) (counts next live) (cells xs ts ls gs) (moves present s i) (Refused 21) (counts next live) (cells xs ts ls gs)
  unfolding move_by machine_from
  move_gone l =
      tried_same (plan_for row) (counts next live) c (moves present s i) (Refused 21) (λ well.
      sym (move_by_lem m present s i ∙ ap (move_by m s present i) (found_none M live c s k (found well) (omega arith)) ∙ settled_refused _ _ _ 21 refl))

  module _ (l : k < live) (w : ℕ) (ew : w ≡ identifiers_in row) (t : Template) (looked : t ≡ template_at row (get_or ts k 0)) (allowed : ℕ) (ea : allowed ≡ movable present t)
      (a : Answer) (eq : a ≡ refusal_of w t.risk allowed i) where
    moved_by : well_formed box_limits m ≡ true → answer_to box_limits m (moves present s i) ≡ settled m a (moved m s (label_with present (get_or ls k 0) i))
    unfolding move_by machine_from move_answer refusal_of placed
    moved_by well =
        move_by_lem m present s i
        ∙ ap (move_by m s present i) (found_some M live c s k (found well) (omega arith))
        ∙ ap₂ (λ (M : ℕ) (t : Template). settled m (refusal_of M t.risk (movable present t) i) (moved m s (label_with present (get_or ls k 0) i)))
        (formed_identifiers row next live c well ∙ sym ew) (sym (looked_at row next live c well k (omega arith) t looked))
        ∙ ap (λ (a : ℕ). settled m (refusal_of w t.risk a i) (moved m s (label_with present (get_or ls k 0) i))) (sym ea)
        ∙ ap (λ (a : Answer). settled m a (moved m s (label_with present (get_or ls k 0) i))) (sym eq)

    pub move_refused : (n : ℕ) → a ≡ Refused n → Tried (plan_for row) (counts next live) (cells xs ts ls gs) (moves present s i) (Refused n) (counts next live) (cells xs ts ls gs)
    move_refused n z =
        tried_same (plan_for row) (counts next live) c (moves present s i) (Refused n) (λ well. sym (moved_by well ∙ settled_refused _ _ _ n z))

    -- An identifier that may be moved is one of the plan's, so that a mask has it.
    width : well_formed box_limits m ≡ true → a ≡ Done → i < 32
    width well z =
        let few = plan_few (plan_for row) (formed_plan (plan_for row) next live c well) in
        let is = formed_identifiers row next live c well in
        let b = not_refused w t.risk allowed i (sym z ∙ eq) in omega (arith, few, is, ew, b)

    -- The label is stored at place j.
    pub move_done : a ≡ Done → (label : ℕ) (ls' : List ℕ) (j : ℕ) → (i < 32 → label ≡ label_with present (get_or ls k 0) i) → length ls ≡ 128 → ls' ≡ set ls j label → j ≡ k
        → Tried (plan_for row) (counts next live) (cells xs ts ls gs) (moves present s i) Done (counts next live) (cells xs ts ls' gs)
    unfolding moved machine_from unless_done
    move_done z label ls' j el room e at = record {
      means = λ well.
          let few = formed_live (plan_for row) next live c well in
          let serial = found_serial M live c s k (found well) (omega arith) in
          sym (moved_by well ∙ settled_done _ _ _ z
          ∙ ap (λ (ps : List Process). record { answer = Done; machine = record { plan = plan_for row; next = next; live = ps } })
          (ap₂ (λ (s label : ℕ). relabel s label (processes_of M live c)) (sym serial) (sym (el (width well z)))
          ∙ relabelled_places (plan_for row) next live xs ts ls gs well k (omega arith) label ls' (omega (arith, room, few)) (e ∙ ap (λ (j : ℕ). set ls j label) at)));
      same = Prim.tt;
      others = unless_step_lem (moves present s i) _ (record { counts_stay = refl; serials_stay = refl; templates_stay = refl; tags_stay = refl });
    }

-- ---- the label, by the direction

pub label_raised : (present : Bool) (label i r : ℕ) → present ≡ true → r ≡ plus_below 32 label i → i < 32 → r ≡ label_with present label i
unfolding label_with
label_raised present label i r h e l = e ∙ plus-below 32 label i l ∙ ap (λ (b : Bool). label_with b label i) (sym h)

pub label_lowered : (present : Bool) (label i w r : ℕ) → present ≡ false → w ≡ plus_below 32 0 i → r ≡ without label w → i < 32 → r ≡ label_with present label i
unfolding label_with plus
label_lowered present label i w r h e er l = er ∙ ap (without label) (e ∙ plus-below 32 0 i l ∙ or_zero_l (2 ^ i)) ∙ ap (λ (b : Bool). label_with b label i) (sym h)
