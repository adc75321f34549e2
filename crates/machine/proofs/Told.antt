-- What a call tells, whatever it names: it is refused and the machine is the same, or it is a step, a delivery, a hold, a
-- raise or a lower, with all that is then known and the machine that it leaves. To say something of every call, match
-- on this.
use Prim.Native.Nat.{ℕ, ◌+◌, ◌<◌}
use native.Mathlib.Omega.{arith}
use mathlib.Core.Path.{◌≡◌, refl, ap, ◌∙◌}
use mathlib.Core.Logic.{◌≢◌}
use mathlib.Core.Option.{Option, none, some}
use mathlib.Core.Bool.{Bool, true, false, cond, not, ◌&&◌, ◌||◌, and-true, and-false, or-false}
use lib.Dec.{eqb}
use lib.ListN.{length}
use borrow.Author.Tests.{not-false, ltb-true, eq-eqb, ne_eqb}
use Rattle.lists.specs.Numbers.{all}
use Rattle.lists.proofs.Tests.{passes_fails}
use Rattle.lists.proofs.Put.{eqb_self}
use Rattle.mask.specs.Mask.{has}
use Rattle.mask.proofs.Items.{has-plus, has-without, has_one, plus-has}
use Rattle.plan.specs.declared.Plan.{Plan}
use Rattle.plan.specs.Plan.{at}
use Rattle.machine.specs.declared.Answer.{Answer, TheVariants.{Done, Delivered, Held, Refused}}
use Rattle.machine.specs.Machine.{Process, Machine, Limits, Call, step, send, raise, lower, Outcome, refuse_if, if_done, find}
use Rattle.machine.specs.Machine.{branch_fits, may_become, step_answer, stepped, settled, step_by, passes, send_by}
use Rattle.machine.specs.Machine.{movable, label_with, move_answer, moved, move_by, answer_to, run}
use Rattle.machine.specs.State.{unless_done}
use Rattle.machine.proofs.Outcomes.{outcome, refuse_done, Plain, plain_refuse, settled-either, run-either}
use Rattle.machine.proofs.Sending.{worn, Passing, passes_passing}
use Rattle.machine.proofs.Templates.{children_at}

-- ---- an accepted step

-- 22 to 25 do not refuse a step of p.
pub record Stepping (limits : Limits) (m : Machine) (p : Process) (branch : ℕ) : Type 0 where
  pub branches : branch_fits (at m.plan p.template).form branch ≡ true
  pub room : (eqb (length (children_at m.plan p.template branch)) 2 && not (limits.processes (length m.live + 1))) ≡ false
  pub serials : limits.serials (m.next + length (children_at m.plan p.template branch)) ≡ true
  pub labels : all (may_become m.plan p.label p.template) (children_at m.plan p.template branch) ≡ true

module _ (limits : Limits) (m : Machine) (p : Process) (branch : ℕ) where
  abbrev answer : Answer
  answer = step_answer limits m p branch (children_at m.plan p.template branch)

  -- An accepted step tells this.
  stepping : answer ≡ Done → Stepping limits m p branch
  unfolding step_answer
  stepping e =
      let r22 = refuse_done _ 22 _ e in
      let r23 = refuse_done _ 23 _ r22.1 in
      let r24 = refuse_done _ 24 _ r23.1 in
      let r25 = refuse_done _ 25 _ r24.1 in
      record { branches = not-false _ r22.0; room = r23.0; serials = not-false _ r24.0; labels = not-false _ r25.0 }

  step_plain : Plain answer
  unfolding step_answer
  step_plain = plain_refuse _ 22 _ (plain_refuse _ 23 _ (plain_refuse _ 24 _ (plain_refuse _ 25 Done tt)))

-- ---- an accepted raise or lower

-- 27 to 29 do not refuse that p has identifier i in its label (present is true), or lacks it (false).
pub record Moving (plan : Plan) (p : Process) (present : Bool) (i : ℕ) : Type 0 where
  pub below : i < plan.identifiers
  pub risk : (at plan p.template).risk ≡ true
  pub allowed : has i (movable present (at plan p.template)) ≡ true

module _ (plan : Plan) (p : Process) (present : Bool) (i : ℕ) where
  -- An accepted move tells this.
  moving : move_answer plan p present i ≡ Done → Moving plan p present i
  unfolding move_answer
  moving e =
      let r27 = refuse_done _ 27 _ e in
      let r28 = refuse_done _ 28 _ r27.1 in
      let r29 = refuse_done _ 29 _ r28.1 in
      record { below = ltb-true i plan.identifiers (not-false _ r27.0); risk = not-false _ r28.0; allowed = not-false _ r29.0 }

  move_plain : Plain (move_answer plan p present i)
  unfolding move_answer
  move_plain = plain_refuse _ 27 _ (plain_refuse _ 28 _ (plain_refuse _ 29 Done tt))

-- A move sets the identifier that it names,
pub label_set : (present : Bool) (label i : ℕ) → has i (label_with present label i) ≡ present
unfolding label_with
label_set true label i = plus-has label i
label_set false label i = has-without i label _ ∙ (ap (λ (b : Bool). has i label && not b) (has_one i i ∙ eqb_self i) ∙ and-false (has i label))

-- and no other.
pub label_kept : (present : Bool) (label i j : ℕ) → j ≢ i → has j (label_with present label i) ≡ has j label
unfolding label_with
label_kept true label i j h = has-plus j label i ∙ (ap (λ (b : Bool). has j label || b) (ne_eqb j i h) ∙ or-false (has j label))
label_kept false label i j h =
    has-without j label _ ∙ (ap (λ (b : Bool). has j label && not b) (has_one j i ∙ ne_eqb j i h) ∙ and-true (has j label))

-- ---- every call

-- What a call comes to.
pub data Told (limits : Limits) (m : Machine) : Call → Outcome → Type 0 where
  refuses : {call : Call} (n : ℕ) → Told limits m call (outcome (Refused n) m)
  steps : (s branch : ℕ) (p : Process) → find s m.live ≡ some p → Stepping limits m p branch
      → Told limits m (step s branch) (outcome Done (stepped m s p (children_at m.plan p.template branch)))
  delivers : (s r : ℕ) (p q : Process) → find s m.live ≡ some p → find r m.live ≡ some q → s ≢ r
      → Passing m.plan (worn p) (worn q) → Told limits m (send s r) (outcome Delivered m)
  holds : (s r : ℕ) (p q : Process) → find s m.live ≡ some p → find r m.live ≡ some q → s ≢ r
      → passes m.plan p.label p.tags q ≡ false → Told limits m (send s r) (outcome Held m)
  raises : (s i : ℕ) (p : Process) → find s m.live ≡ some p → Moving m.plan p true i
      → Told limits m (raise s i) (outcome Done (moved m s (label_with true p.label i)))
  lowers : (s i : ℕ) (p : Process) → find s m.live ≡ some p → Moving m.plan p false i
      → Told limits m (lower s i) (outcome Done (moved m s (label_with false p.label i)))

-- What a move of either direction tells.
move_told : (m : Machine) (P : Outcome → Type 0) (s : ℕ) (present : Bool) (i : ℕ) → ((n : ℕ) → P (outcome (Refused n) m))
    → ((p : Process) → find s m.live ≡ some p → Moving m.plan p present i → P (outcome Done (moved m s (label_with present p.label i))))
    → P (move_by m s present i (find s m.live))
unfolding move_by settled if_done
move_told m P s present i refused done = pick (find s m.live) refl
  where
    pick : (o : Option Process) → find s m.live ≡ o → P (move_by m s present i o)
    pick none e = refused 21
    pick (some p) e = settled-either P m _ _ (move_plain m.plan p present i) (λ n _. refused n) (λ d. done p e (moving m.plan p present i d))

module _ (limits : Limits) (m : Machine) where
  -- What a well formed machine answers,
  pub told : (call : Call) → Told limits m call (answer_to limits m call)
  unfolding answer_to step_by send_by settled if_done refuse_if
  told (step s branch) = pick (find s m.live) refl
    where
      pick : (o : Option Process) → find s m.live ≡ o → Told limits m (step s branch) (step_by limits m s branch o)
      pick none e = refuses 21
      pick (some p) e = settled-either (Told limits m (step s branch)) m _ _ (step_plain limits m p branch)
          (λ n _. refuses n) (λ d. steps s branch p e (stepping limits m p branch d))
  told (send s r) = pick (find s m.live) refl (find r m.live) refl
    where
      sent : (p q : Process) → find s m.live ≡ some p → find r m.live ≡ some q
          → (same : Bool) → eqb s r ≡ same → (pass : Bool) → passes m.plan p.label p.tags q ≡ pass
          → Told limits m (send s r) (settled m (refuse_if same 26 (cond pass Delivered Held)) m)
      sent p q e f true z pass t = refuses 26
      sent p q e f false z true t = delivers s r p q e f (λ d. passes_fails _ (eq-eqb s r d) z) (passes_passing m.plan (worn p) q t)
      sent p q e f false z false t = holds s r p q e f (λ d. passes_fails _ (eq-eqb s r d) z) t

      pick : (o : Option Process) → find s m.live ≡ o → (o' : Option Process) → find r m.live ≡ o'
          → Told limits m (send s r) (send_by m s r o o')
      pick none e o' f = refuses 21
      pick (some p) e none f = refuses 21
      pick (some p) e (some q) f = sent p q e f (eqb s r) refl (passes m.plan p.label p.tags q) refl
  told (raise s i) = move_told m (Told limits m (raise s i)) s true i refuses (raises s i)
  told (lower s i) = move_told m (Told limits m (lower s i)) s false i refuses (lowers s i)

  -- and any machine.
  pub run_told : (call : Call) → Told limits m call (run limits m call)
  run_told call = run-either limits m call (Told limits m call) (refuses 20) (λ _. told call)

  -- A refused call leaves the machine as it was.
  pub refused_same : {call : Call} {o : Outcome} → Told limits m call o → (n : ℕ) → o.answer ≡ Refused n → o.machine ≡ m
  refused_same (refuses k) n e = refl
  refused_same (steps s branch p f may) n e = let z : ◌≡◌ {A = ℕ} 0 1 = cc in absurd (omega arith)
  refused_same (delivers s r p q f g d may) n e = refl
  refused_same (holds s r p q f g d may) n e = refl
  refused_same (raises s i p f may) n e = let z : ◌≡◌ {A = ℕ} 0 1 = cc in absurd (omega arith)
  refused_same (lowers s i p f may) n e = let z : ◌≡◌ {A = ℕ} 0 1 = cc in absurd (omega arith)

  stays_by : {s r : ℕ} {o : Outcome} (P : Type 0) → Told limits m (send s r) o → unless_done o.answer P → P
  unfolding unless_done
  stays_by P (refuses n) u = u
  stays_by P (delivers s r p q f g d may) u = u
  stays_by P (holds s r p q f g d may) u = u

  -- No send is done: "the state stays".
  pub send_stays : (s r : ℕ) (P : Type 0) → unless_done (run limits m (send s r)).answer P → P
  send_stays s r P u = stays_by P (run_told (send s r)) u
