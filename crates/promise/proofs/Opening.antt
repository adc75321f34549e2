-- The family and, under any guard, the guarded knowledge are so at the start: there is one process, and it knows itself.
use Prim.Native.Nat.{ℕ, zero}
use native.Mathlib.Omega.{arith}
use mathlib.Core.Path.{◌≡◌, refl, sym, subst, ◌∙◌, fun_ext}
use mathlib.Core.List.{[], ◌∷◌}
use mathlib.Core.Option.{none, some}
use mathlib.Core.Bool.{Bool, true, false, cond, false≢true}
use lib.Dec.{eqb}
use borrow.Author.Tests.{eqb-true}
use Rattle.lists.specs.Numbers.{put}
use Rattle.lists.proofs.Put.{put_all, put_all₂, put_two}
use Rattle.lists.proofs.Tests.{or_left}
use Rattle.lists.proofs.Tabulate.{get_or-tabulate}
use Rattle.mask.specs.Mask.{has}
use Rattle.plan.specs.declared.Plan.{Plan}
use Rattle.plan.specs.Plan.{at, creates}
use Rattle.rules.specs.Judge.{wearable}
use Rattle.machine.specs.Machine.{tag, find, root}
use Rattle.machine.proofs.Sending.{worn}
use Rattle.machine.proofs.Live.{no_some, population, find_last}
use Rattle.promise.specs.History.{Member, lineage, nobody, newborn, opening}
use Rattle.promise.proofs.Family.{Fits, HasRoute, AreApart, NotAbove, IsFound, AllFits, Family}
use Rattle.promise.proofs.Guard.{Guard}
use Rattle.promise.proofs.Knowledge.{Knows, Carried, AllCarry, Guarded}

-- What the history tells of serial 0.
abbrev first : Member
first = newborn 0 [] (λ y. eqb y 0)

root_population : (plan : Plan) → population (root plan ∷ []) ≡ put (λ x. none) 0 (some (root plan))
unfolding find root
root_population plan = fun_ext (λ x. find_last x [] (root plan) refl)

root_fits : (plan : Plan) → Fits plan 0 (root plan) first
unfolding root tag wearable
root_fits plan = record {
  live = refl;
  template = refl;
  tags = λ i h. get_or-tabulate plan.identifiers (λ j. 0) i 0 h ∙ zero (creates plan i 0);
  within = λ i h e. or_left (has i (at plan 0).lab) _ e;
  unmoved = λ e i h. refl;
}
  where
    zero : (b : Bool) → ◌≡◌ {A = ℕ} 0 (cond b 0 0)
    zero true = refl
    zero false = refl

-- The family at the start,
pub family_opening : (plan : Plan) → Family plan 1 (population (root plan ∷ [])) (opening plan).history
unfolding opening
family_opening plan = rw (root_population plan) (record {
  pos = omega arith;
  route = put_all (HasRoute plan 1) (λ x. nobody) 0 first (λ b. (refl, (omega arith, tt))) (λ x h b. absurd (false≢true b));
  apart = put_all₂ (AreApart plan) (λ x. nobody) 0 first
      (λ b d h. absurd (h refl)) (λ y h b d. absurd (false≢true d))
      (λ x h b d. absurd (false≢true b)) (λ x y h k b d. absurd (false≢true b));
  childless = put_all₂ NotAbove (λ x. nobody) 0 first
      (λ a b o. o) (λ y h a b o. o) (λ x h a b o. o) (λ x y h k a b o. o);
  alive = put_two IsFound (λ x. none) (λ x. nobody) 0 (some (root plan)) first
      (λ a. (refl, (root plan, refl))) (λ x h a. absurd (false≢true a));
  fits = put_two (AllFits plan) (λ x. none) (λ x. nobody) 0 (some (root plan)) first
      (λ p e. let q : root plan ≡ p = cc in rw (← q) (root_fits plan)) (λ x h p e. absurd (no_some p e));
})

-- and the knowledge.
pub guarded_opening : (plan : Plan) (guard : Guard plan) → Guarded plan guard (population (root plan ∷ [])) (opening plan).history
unfolding opening
guarded_opening plan guard = rw (root_population plan) (record {
  known = put_all₂ (Knows plan guard) (λ x. nobody) 0 first
      (λ k. (
        refl,
        refl,
        (λ o. o),
        λ t. (
          subst (λ (X : ℕ). has X guard.declass ≡ false) (sym t) guard.clear,
          guard.left 0 (root plan) first (lineage 0 first) (root_fits plan) (own t),
        ),
      ))
      (λ y h k. absurd (h (eqb-true y 0 k))) (λ x h k. absurd (false≢true k)) (λ x y h j k. absurd (false≢true k));
  safe = put_two (AllCarry plan guard (put (λ x. nobody) 0 first)) (λ x. none) (λ x. nobody) 0 (some (root plan)) first
      (λ p e. put_all (Carried plan guard (worn p) (λ y. eqb y 0)) (λ x. nobody) 0 first
      (λ k. (refl, λ t. let q : root plan ≡ p = cc in rw (← q) (own t))) (λ y h k. absurd (h (eqb-true y 0 k))))
      (λ x h p e. absurd (no_some p e));
})
  where
    own : 0 ≡ guard.source → guard.Safe (worn (root plan)) (lineage 0 first)
    own t = guard.own 0 (root plan) first (root_fits plan) refl t
