-- Where no refusal of a step holds, there is room for its children.
use Prim.Native.Nat.{ℕ, ◌+◌, ◌-◌, ◌≤◌, ◌<◌}
use mathlib.Core.Path.{◌≡◌, sym, ap, ◌∙◌}
use mathlib.Core.Bool.{Bool, false, true, not, ◌&&◌}
use mathlib.Core.Logic.{⊎_elim}
use native.Mathlib.Omega.{arith}
use lib.{Dec.{leb, eqb}, ListN.{length}}
use borrow.Author.Tests.{leb-true, eq-eqb, not-false}
use Rattle.lists.proofs.Tests.{lt_or_le}
use Rattle.plan.specs.declared.{Template.{Template}, UpToTwo.{UpToTwo, TheVariants.{None, One, Two}}}
use Rattle.plan.specs.Listed.{listed}
use Rattle.machine.specs.declared.Answer.TheVariants.{Done}
use Rattle.machine.specs.Machine.{refuse_if}
use Rattle.machine.proofs.Outcomes.{refuse_done}
use Rattle.population.specs.declared.Child.{Child}
use Rattle.admission.specs.Admission.{all_fitting, refusal_of}
use Rattle.spawning.specs.Spawning.{Room}

at_most_two : (children : UpToTwo Child) → length (listed children) ≤ 2
at_most_two None = omega arith
at_most_two (One y) = omega arith
at_most_two (Two y z) = omega arith

module _ (M next live label : ℕ) (X : Template) (branch : ℕ) (children : UpToTwo Child) (k : ℕ)
    (e : Done ≡ refusal_of M next live label X branch (listed children)) (h : k < live) (l : live ≤ 128) where
  abbrev count : ℕ
  count = length (listed children)

  later : refuse_if (eqb count 2 && not (leb (live + 1) 128)) 23
      (refuse_if (not (leb (next + count) 4294967295)) 24 (refuse_if (not (all_fitting M label X (listed children))) 25 Done)) ≡ Done
  unfolding refusal_of
  later = (refuse_done _ 22 _ (sym e)).1

  pub serials_left : next + count ≤ 4294967295
  serials_left =
      let d = refuse_done (not (leb (next + count) 4294967295)) 24 _ (refuse_done (eqb count 2 && not (leb (live + 1) 128)) 23 _ later).1 in
      leb-true (next + count) 4294967295 (not-false (leb (next + count) 4294967295) d.0)

  pub places_left : live - 1 + count ≤ 128
  places_left =
      let n = at_most_two children in
      ⊎_elim (λ w. omega arith) (λ w. spare (omega arith) (refuse_done (eqb count 2 && not (leb (live + 1) 128)) 23 _ later).0) (lt_or_le count 2)
    where
      spare : count ≡ 2 → (eqb count 2 && not (leb (live + 1) 128)) ≡ false → live - 1 + count ≤ 128
      spare r f =
          let w : leb (live + 1) 128 ≡ true = not-false (leb (live + 1) 128) (ap (λ (b : Bool). b && not (leb (live + 1) 128)) (sym (eq-eqb count 2 r)) ∙ f) in
          let v = leb-true (live + 1) 128 w in omega arith

  pub room_left : M ≤ 32 → Room M next k (live - 1) count
  room_left few = record { identifiers = few; place = omega arith; processes = omega arith; serials = serials_left; places = places_left }
