-- What is so after every list of calls from the start: the family, the guarded knowledge under any guard, a well formed
-- machine, and with these the three parts of the promise.
use Prim.Native.Nat.{ℕ, ◌<◌}
use native.Mathlib.Omega.{arith}
use mathlib.Core.Path.{◌≡◌, sym, ap, subst, ◌∙◌}
use mathlib.Core.Logic.{◌≢◌}
use mathlib.Core.List.{List, [], ◌∷◌}
use mathlib.Core.Bool.{true, false}
use Rattle.mask.specs.Mask.{has}
use Rattle.plan.specs.declared.{Plan.{Plan}, Assertion.{Assertion}, Policy.{Policy}}
use Rattle.plan.specs.Plan.{at}
use Rattle.plan.specs.Range.{InRange}
use Rattle.rules.specs.Rules.{EveryRule, Serves, Rules18To19}
use Rattle.machine.specs.declared.Answer.TheVariants.{Refused}
use Rattle.machine.specs.Machine.{Limits, Call, step, send, well_formed, answer_to, run, start}
use Rattle.machine.specs.State.{code_of}
use Rattle.machine.proofs.Outcomes.{refused_number, run-either, run_answers}
use Rattle.machine.proofs.Sending.{worn, delivered}
use Rattle.machine.proofs.Live.{population}
use Rattle.machine.proofs.WellFormed.{Sensible, stays_formed}
use Rattle.promise.specs.History.{World, after, after_all, opening, world_after}
use Rattle.promise.specs.Promise.{Secret, Delivers, Unhindered}
use Rattle.promise.proofs.Family.{Family}
use Rattle.promise.proofs.Guard.{Guard, secrecy_guard}
use Rattle.promise.proofs.Knowledge.{Guarded, guarded_hear}
use Rattle.promise.proofs.Calls.{machine_with, Property, Preserved, always}
use Rattle.promise.proofs.Events.{family_step, guarded_step, family_hear, family_move, guarded_move}
use Rattle.promise.proofs.Opening.{family_opening, guarded_opening}
use Rattle.promise.proofs.Codes.{refused_tells}
use Rattle.promise.proofs.Secrecy.{secret}
use Rattle.promise.proofs.Delivery.{passing}
use Rattle.promise.proofs.Steps.{not_25}

-- ---- the family and the knowledge

module _ (limits : Limits) (plan : Plan) where
  -- The family as a property of the machine and its history.
  abbrev pub IsFamily : Property
  IsFamily next live H = Family plan next (population live) H

  family_kept : (declass : ℕ) → Preserved limits plan declass IsFamily
  family_kept declass = record {
    by_step = λ next live H g s p e branch stepping. family_step plan next live H g s p e declass branch;
    by_send = λ next live H g s r p q e f passing. family_hear plan next live H g declass r (H s).knows;
    by_move = λ next live H g s p e present i moving. family_move plan next live H g s p e present i moving;
  }

  -- The machine has its plan still, and the family is as it should be.
  pub family_always : (declass : ℕ) (calls : List Call)
      → let w = world_after limits plan declass calls in (w.machine.plan ≡ plan) × IsFamily w.machine.next w.machine.live w.history
  family_always declass calls = always limits plan declass IsFamily (family_kept declass) (family_opening plan) calls

  module _ (guard : Guard plan) where
    -- The knowledge beside it.
    abbrev IsGuarded : Property
    IsGuarded next live H = IsFamily next live H × Guarded plan guard (population live) H

    guarded_kept : Preserved limits plan guard.declass IsGuarded
    guarded_kept = let family = family_kept guard.declass in record {
      by_step = λ next live H g s p e branch stepping. (
        family.by_step next live H g.0 s p e branch stepping,
        guarded_step plan next live H g.0 s p e guard g.1 branch stepping.labels,
      );
      by_send = λ next live H g s r p q e f passing. (
        family.by_send next live H g.0 s r p q e f passing,
        guarded_hear plan guard (population live) H g.1 next g.0 r (H s).knows (worn p) q f passing (g.1.safe s p e),
      );
      by_move = λ next live H g s p e present i moving. (
        family.by_move next live H g.0 s p e present i moving,
        guarded_move plan next live H g.0 s p e present i moving guard g.1,
      );
    }

    -- Knowledge is guarded, whichever the guard.
    pub guarded_always : (calls : List Call)
        → let w = world_after limits plan guard.declass calls in Guarded plan guard (population w.machine.live) w.history
    guarded_always calls =
        (always limits plan guard.declass IsGuarded guarded_kept (family_opening plan, guarded_opening plan guard) calls).1.1

-- ---- never 20

formed_always : (limits : Limits) → Sensible limits → (declass : ℕ) (w : World) → well_formed limits w.machine ≡ true
    → (calls : List Call) → well_formed limits (after_all limits declass w calls).machine ≡ true
unfolding after_all after
formed_always limits fewer declass w e [] = e
formed_always limits fewer declass w e (call ∷ rest) =
    formed_always limits fewer declass (after limits declass w call) (stays_formed limits fewer w.machine call e) rest

-- A machine that was started well formed is never in a bad state.
pub never_bad : (limits : Limits) → Sensible limits → (plan : Plan) → well_formed limits (start plan) ≡ true → (declass : ℕ) (calls : List Call)
    → well_formed limits (world_after limits plan declass calls).machine ≡ true
unfolding world_after opening
never_bad limits fewer plan e declass calls = formed_always limits fewer declass (opening plan) e calls

-- ---- the three parts of the promise

-- No Sink process knows a different Source process that is not its kin.
pub secret_always : (plan : Plan) (range : InRange plan) (a : Assertion) (t : ℕ) → t < plan.identifiers → Serves plan a t
    → has a.source a.declass ≡ false → (limits : Limits) (calls : List Call) → Secret a (world_after limits plan a.declass calls)
unfolding secrecy_guard
secret_always plan range a t below serves clear limits calls =
    let w = world_after limits plan a.declass calls in
    secret plan range a t below serves clear w.machine.next (population w.machine.live) w.history
    (family_always limits plan a.declass calls).1
    (guarded_always limits plan (secrecy_guard plan range a t below serves clear) calls)

-- A send from a live Source process to its live kin at Sink is delivered, if neither has moved its own label.
pub delivers_always : (plan : Plan) (a : Assertion)
    → ((t : ℕ) → t < plan.identifiers → has t (at plan a.source).lab ≡ true → Rules18To19 plan a t)
    → (limits : Limits) → Sensible limits → well_formed limits (start plan) ≡ true → (declass : ℕ) (calls : List Call)
    → Delivers limits a (world_after limits plan declass calls)
unfolding code_of
delivers_always plan a asked limits fewer started declass calls x y live-x live-y at_source at-sink differ kin moved-x moved-y =
    let w = world_after limits plan declass calls in
    let r = family_always limits plan declass calls in
    let p = (r.1.alive x live-x).1 in
    let q = (r.1.alive y live-y).1 in
    let pass = passing plan a asked w.machine.next (population w.machine.live) w.history r.1
    x y live-x live-y at_source at-sink differ kin moved-x moved-y p.0 q.0 p.1 q.1 in
    ap (λ o. code_of o.answer) (run_answers limits w.machine (send x y) (never_bad limits fewer plan started declass calls)
    ∙ delivered limits w.machine x y p.0 q.0 p.1 q.1 differ (rw r.0 pass))

-- No step of a process that has not moved its own label is refused over labels.
pub unhindered_always : (plan : Plan) → InRange plan → (policy : Policy) → EveryRule plan policy
    → (limits : Limits) (declass : ℕ) (calls : List Call) → Unhindered limits (world_after limits plan declass calls)
unhindered_always plan range policy rules limits declass calls s branch unmoved =
    let w = world_after limits plan declass calls in
    let r = family_always limits plan declass calls in
    let never : (run limits w.machine (step s branch)).answer ≢ Refused 25 =
    run-either limits w.machine (step s branch) (λ o. o.answer ≢ Refused 25) (λ e. let z = refused_number 20 25 e in omega arith) (λ _.
    subst (λ (plan' : Plan). (answer_to limits (machine_with plan' w.machine.next w.machine.live) (step s branch)).answer ≢ Refused 25) (sym r.0)
    (not_25 plan range policy rules w.machine.next w.machine.live w.history r.1 s unmoved limits branch)) in
    λ e. never (refused_tells limits w.machine (step s branch) 25 (omega arith) e)
