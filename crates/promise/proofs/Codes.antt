-- Of what the machine answers the number tells the answer: done, delivered and held are 0, 1 and 2, and no refusal is
-- below 20.
use Prim.Native.Nat.{ℕ, zero, suc, ◌≤◌}
use native.Mathlib.Omega.{arith}
use mathlib.Core.Path.{◌≡◌, refl, sym, ap, ◌∙◌}
use mathlib.Core.Bool.{Bool, true, false, cond}
use mathlib.Core.Option.{Option, none, some}
use Rattle.machine.specs.declared.Answer.{Answer, TheVariants.{Done, Delivered, Held, Refused}}
use Rattle.machine.specs.Machine.{Process, Machine, Limits, Call, step, send, raise, lower, refuse_if, settled, find, step_answer, step_by}
use Rattle.machine.specs.Machine.{passes, send_by, move_answer, move_by, answer_to, run}
use Rattle.machine.specs.State.{code_of}
use Rattle.machine.proofs.Outcomes.{run-either}

-- A refusal, if it is one, has a number from 20 on.
abbrev Numbered : Answer → Type 0
Numbered Done = Unit {0}
Numbered Delivered = Unit {0}
Numbered Held = Unit {0}
Numbered (Refused n) = 20 ≤ n

-- The answer that a number stands for.
answer_of : ℕ → Answer
answer_of zero = Done
answer_of (suc zero) = Delivered
answer_of (suc (suc zero)) = Held
answer_of (suc (suc (suc n))) = Refused (suc (suc (suc n)))

told_back : (a : Answer) → Numbered a → answer_of (code_of a) ≡ a
unfolding code_of answer_of
told_back Done h = refl
told_back Delivered h = refl
told_back Held h = refl
told_back (Refused zero) h = absurd (omega arith)
told_back (Refused (suc zero)) h = absurd (omega arith)
told_back (Refused (suc (suc zero))) h = absurd (omega arith)
told_back (Refused (suc (suc (suc n)))) h = refl

-- Such answers with the same number are the same.
same_number : (a b : Answer) → Numbered a → Numbered b → code_of a ≡ code_of b → a ≡ b
same_number a b h k e = sym (told_back a h) ∙ ap answer_of e ∙ told_back b k

-- ---- what the machine answers

numbered_refuse : (b : Bool) (n : ℕ) (later : Answer) → 20 ≤ n → Numbered later → Numbered (refuse_if b n later)
unfolding refuse_if
numbered_refuse true n later h k = h
numbered_refuse false n later h k = k

module _ (limits : Limits) (m : Machine) where
  step_numbered : (s branch : ℕ) (o : Option Process) → Numbered (step_by limits m s branch o).answer
  unfolding step_by step_answer settled
  step_numbered s branch none = omega arith
  step_numbered s branch (some p) =
      numbered_refuse _ 22 _ (omega arith) (numbered_refuse _ 23 _ (omega arith) (numbered_refuse _ 24 _ (omega arith) (numbered_refuse _ 25 Done (omega arith) tt)))

  send_numbered : (from to : ℕ) (o o' : Option Process) → Numbered (send_by m from to o o').answer
  unfolding send_by settled
  send_numbered from to none o' = omega arith
  send_numbered from to (some p) none = omega arith
  send_numbered from to (some p) (some q) = numbered_refuse _ 26 _ (omega arith) (either (passes m.plan p.label p.tags q))
    where
      either : (b : Bool) → Numbered (cond b Delivered Held)
      either true = tt
      either false = tt

  move_numbered : (s : ℕ) (present : Bool) (i : ℕ) (o : Option Process) → Numbered (move_by m s present i o).answer
  unfolding move_by move_answer settled
  move_numbered s present i none = omega arith
  move_numbered s present i (some p) =
      numbered_refuse _ 27 _ (omega arith) (numbered_refuse _ 28 _ (omega arith) (numbered_refuse _ 29 Done (omega arith) tt))

  answer_numbered : (call : Call) → Numbered (answer_to limits m call).answer
  unfolding answer_to
  answer_numbered (step s branch) = step_numbered s branch (find s m.live)
  answer_numbered (send from to) = send_numbered from to (find from m.live) (find to m.live)
  answer_numbered (raise s i) = move_numbered s true i (find s m.live)
  answer_numbered (lower s i) = move_numbered s false i (find s m.live)

  run_numbered : (call : Call) → Numbered (run limits m call).answer
  run_numbered call = run-either limits m call (λ o. Numbered o.answer) (omega arith) (λ _. answer_numbered call)

-- Two calls, on whichever machines, that give the same number give the same answer;
pub number_tells : (limits : Limits) (m m' : Machine) (call call' : Call) → code_of (run limits m call).answer ≡ code_of (run limits m' call').answer
    → (run limits m call).answer ≡ (run limits m' call').answer
number_tells limits m m' call call' e = same_number _ _ (run_numbered limits m call) (run_numbered limits m' call') e

module _ (limits : Limits) (m : Machine) (call : Call) where
  -- 1 is a delivery,
  pub delivered_tells : code_of (run limits m call).answer ≡ 1 → (run limits m call).answer ≡ Delivered
  unfolding code_of
  delivered_tells e = same_number _ Delivered (run_numbered limits m call) tt e

  -- and a number from 20 on that very refusal.
  pub refused_tells : (n : ℕ) → 20 ≤ n → code_of (run limits m call).answer ≡ n → (run limits m call).answer ≡ Refused n
  unfolding code_of
  refused_tells n h e = same_number _ (Refused n) (run_numbered limits m call) h e
