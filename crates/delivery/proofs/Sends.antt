-- The ways out of a send, as the code meets them.
use Prim.Native.Nat.{ℕ, ◌+◌, ◌*◌, ◌≤◌, ◌<◌}
use mathlib.Core.Path.{◌≡◌, refl, sym, ap, ◌∙◌, subst}
use mathlib.Core.Bool.{Bool, true, false, cond}
use mathlib.Core.List.{List}
use native.Mathlib.Omega.{arith}
use lib.Dec.{eqb}
use lib.ListN.{length, get_or}
use borrow.Author.Tests.{eq-eqb, ne_eqb}
use Rattle.std.specs.Prelude.{Result}
use Rattle.std.specs.Result.{result_from_control_flow}
use Rattle.std.proofs.Common.{Continue}
use Rattle.lists.specs.Numbers.{lowest}
use Rattle.planrow.specs.Row.{identifiers_in}
use Rattle.planrow.specs.Lookup.{plan_for}
use Rattle.tagrows.proofs.Rows.{row_room}
use Rattle.machine.specs.declared.Answer.TheVariants.{Delivered, Held, Refused}
use Rattle.machine.specs.Machine.{Machine, send, box_limits, well_formed, agree, passes, refuse_if, settled, if_done, send_by, answer_to}
use Rattle.machine.specs.State.{Cells, words_from, placed, machine_from}
use Rattle.machine.proofs.Templates.{plan_few}
use Rattle.population.specs.Arrays.{cells}
use Rattle.population.specs.Lent.{counts, Tried}
use Rattle.population.specs.declared.Refusal.{Refusal}
use Rattle.population.specs.Refusals.{AmongFirst, Found}
use Rattle.population.proofs.Fits.{formed_plan, formed_live, formed_identifiers}
use Rattle.population.proofs.Lent.{tried_same, placed_at, found_none, found_some}

module _ (row : List ℕ) (next live : ℕ) (xs ts ls gs : List ℕ) (from to : ℕ) (sized : length xs ≡ 128) where
  abbrev c : Cells
  c = cells xs ts ls gs

  abbrev m : Machine
  m = machine_from (plan_for row) next live c

  abbrev M : ℕ
  M = (plan_for row).identifiers

  module _ (a : ℕ) (at_a : AmongFirst xs live from a) where
    found_a : well_formed box_limits m ≡ true → a ≡ lowest live (λ i. eqb (get_or xs i 0) from)
    found_a well = placed_at (plan_for row) next live c well from a sized at_a

    pub sent_from_none : live ≤ a → Tried (plan_for row) (counts next live) (cells xs ts ls gs) (send from to) (Refused 21) (counts next live) (cells xs ts ls gs)
    unfolding answer_to send_by settled if_done machine_from
    sent_from_none l =
        tried_same (plan_for row) (counts next live) c (send from to) (Refused 21) (λ well.
        rw (found_none M live c from a (found_a well) (omega arith)))

    module _ (la : a < live) (b : ℕ) (at_b : AmongFirst xs live to b) where
      found_b : well_formed box_limits m ≡ true → b ≡ lowest live (λ i. eqb (get_or xs i 0) to)
      found_b well = placed_at (plan_for row) next live c well to b sized at_b

      pub sent_to_none : live ≤ b → Tried (plan_for row) (counts next live) (cells xs ts ls gs) (send from to) (Refused 21) (counts next live) (cells xs ts ls gs)
      unfolding answer_to send_by settled if_done machine_from
      sent_to_none l =
          tried_same (plan_for row) (counts next live) c (send from to) (Refused 21) (λ well.
          rw (found_some M live c from a (found_a well) (omega arith), found_none M live c to b (found_b well) (omega arith)))

      module _ (lb : b < live) where
        pub sent_itself : from ≡ to → Tried (plan_for row) (counts next live) (cells xs ts ls gs) (send from to) (Refused 26) (counts next live) (cells xs ts ls gs)
        unfolding answer_to send_by settled if_done machine_from refuse_if
        sent_itself e =
            tried_same (plan_for row) (counts next live) c (send from to) (Refused 26) (λ well.
            rw (found_some M live c from a (found_a well) (omega arith), found_some M live c to b (found_b well) (omega arith), eq-eqb from to e))

        -- k is the row's number of identifiers; the rows of tags are there where the state is not bad.
        module _ (e : from ≡ to → ⊥) (k : ℕ) (ek : k ≡ identifiers_in row) where
          M-is : well_formed box_limits m ≡ true → M ≡ k
          M-is well = formed_identifiers row next live c well ∙ sym ek

          row_there : length gs ≡ 4096 → well_formed box_limits m ≡ true → (p : ℕ) → p < live → p * k + k ≤ length gs
          row_there room well p h =
              let few : k ≤ 32 = subst (λ (k : ℕ). k ≤ 32) (M-is well) (plan_few (plan_for row) (formed_plan (plan_for row) next live c well)) in
              let many = formed_live (plan_for row) next live c well in
              let q = row_room p k (omega arith) few in
              omega arith

          pub sent_short : length gs ≡ 4096 → (a * k + k ≤ length gs → b * k + k ≤ length gs → ⊥)
              → Tried (plan_for row) (counts next live) (cells xs ts ls gs) (send from to) Held (counts next live) (cells xs ts ls gs)
          sent_short room short =
              tried_same (plan_for row) (counts next live) c (send from to) Held (λ well. absurd (short (row_there room well a la) (row_there room well b lb)))

          -- r is the answer of `is_passed`.
          module _ (r : Bool) (er : r ≡ agree k (get_or ls a 0) (words_from k gs (a * k)) (get_or ls b 0) (words_from k gs (b * k))) where
            passed : well_formed box_limits m ≡ true → passes (plan_for row) (get_or ls a 0) (placed M c a).tags (placed M c b) ≡ r
            unfolding passes placed
            passed well = ap (λ (k : ℕ). agree k (get_or ls a 0) (words_from k gs (a * k)) (get_or ls b 0) (words_from k gs (b * k))) (M-is well) ∙ sym er

            settled_send : well_formed box_limits m ≡ true → answer_to box_limits m (send from to) ≡ settled m (cond r Delivered Held) m
            unfolding answer_to send_by machine_from refuse_if placed
            settled_send well =
                rw (found_some M live c from a (found_a well) (omega arith), found_some M live c to b (found_b well) (omega arith), ne_eqb from to e)
                (ap (λ (r : Bool). settled m (cond r Delivered Held) m) (passed well))

            pub sent_delivered : r ≡ true → Tried (plan_for row) (counts next live) (cells xs ts ls gs) (send from to) Delivered (counts next live) (cells xs ts ls gs)
            unfolding settled if_done
            sent_delivered q = tried_same (plan_for row) (counts next live) c (send from to) Delivered (λ well. sym (settled_send well ∙ rw q refl))

            pub sent_held : r ≡ false → Tried (plan_for row) (counts next live) (cells xs ts ls gs) (send from to) Held (counts next live) (cells xs ts ls gs)
            unfolding settled if_done
            sent_held q = tried_same (plan_for row) (counts next live) c (send from to) Held (λ well. sym (settled_send well ∙ rw q refl))

-- As `find` answered of both, each answer handed on by `?`.
pub sent_found : (row : List ℕ) (next live : ℕ) (xs ts ls gs : List ℕ) (from to : ℕ) → length xs ≡ 128 → (p q : Result ℕ Refusal)
    → Found xs live from p → Found xs live to q → (u v : _) → p ≡ result_from_control_flow u → q ≡ result_from_control_flow v
    → (a b : ℕ) → u ≡ Continue a → v ≡ Continue b → from ≡ to
    → Tried (plan_for row) (counts next live) (cells xs ts ls gs) (send from to) (Refused 26) (counts next live) (cells xs ts ls gs)
sent_found row next live xs ts ls gs from to sized p q f g u v ep eq a b eu ev e =
    let at_a = rw (ep, eu) at f in
    let at_b = rw (eq, ev) at g in
    sent_itself row next live xs ts ls gs from to sized a at_a.0 at_a.1 b at_b.0 at_b.1 e
