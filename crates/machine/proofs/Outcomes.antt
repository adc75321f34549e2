-- Refusals in order, what a call settles on, and whether a call is tried at all, each by the way it goes.
use Prim.Native.Nat.{ℕ}
use mathlib.Core.Path.{◌≡◌, refl, ap}
use mathlib.Core.Bool.{Bool, true, false, cond}
use Rattle.machine.specs.declared.Answer.{Answer, TheVariants.{Done, Delivered, Held, Refused}}
use Rattle.machine.specs.Machine.{Machine, Limits, Call, Outcome, refuse_if, if_done, well_formed, settled, answer_to, run}
use Rattle.machine.specs.State.{unless_done}

-- An answer beside the machine that is handed back.
abbrev pub outcome : Answer → Machine → Outcome
outcome answer m = record { answer = answer; machine = m }

-- ---- refusals in order

-- A test that holds gives its number,
pub refuse_yes : (b : Bool) (n : ℕ) (later : Answer) → b ≡ true → refuse_if b n later ≡ Refused n
unfolding refuse_if
refuse_yes b n later e = ap (λ (b : Bool). refuse_if b n later) e

-- and one that does not leaves it to the later ones.
pub refuse_no : (b : Bool) (n : ℕ) (later : Answer) → b ≡ false → refuse_if b n later ≡ later
unfolding refuse_if
refuse_no b n later e = ap (λ (b : Bool). refuse_if b n later) e

-- Refusals are told apart by their numbers.
pub refused_number : (n k : ℕ) → Refused n ≡ Refused k → n ≡ k
refused_number n k e = cc

-- A call that is done failed no test.
pub refuse_done : (b : Bool) (n : ℕ) (later : Answer) → refuse_if b n later ≡ Done → (b ≡ false) × (later ≡ Done)
unfolding refuse_if
refuse_done true n later e = let z : ◌≡◌ {A = Bool} true false = cc in (z, cc)
refuse_done false n later e = (refl, e)

-- Done or refused: the answers of a step, a raise and a lower,
abbrev pub Plain : Answer → Type 0
Plain Done = Unit {0}
Plain Delivered = ⊥
Plain Held = ⊥
Plain (Refused n) = Unit {0}

-- which are refusals in order that come to Done.
pub plain_refuse : (b : Bool) (n : ℕ) (later : Answer) → Plain later → Plain (refuse_if b n later)
unfolding refuse_if
plain_refuse true n later h = tt
plain_refuse false n later h = h

-- ---- what a call settles on

-- A refusal hands back the machine that it got,
pub settled_refused : (m new : Machine) (a : Answer) (n : ℕ) → a ≡ Refused n → settled m a new ≡ outcome (Refused n) m
unfolding settled if_done
settled_refused m new a n e = ap (λ (a : Answer). settled m a new) e

-- and Done the new one.
pub settled_done : (m new : Machine) (a : Answer) → a ≡ Done → settled m a new ≡ outcome Done new
unfolding settled if_done
settled_done m new a e = ap (λ (a : Answer). settled m a new) e

-- A plain answer is a refusal and the machine is the same, or it is Done and the machine is the new one.
pub settled-either : (P : Outcome → Type 0) (m new : Machine) (a : Answer) → Plain a
    → ((n : ℕ) → a ≡ Refused n → P (outcome (Refused n) m)) → (a ≡ Done → P (outcome Done new)) → P (settled m a new)
unfolding settled if_done
settled-either P m new Done h refused done = done refl
settled-either P m new Delivered h refused done = absurd h
settled-either P m new Held h refused done = absurd h
settled-either P m new (Refused n) h refused done = refused n refl

-- ---- refusal 20

module _ (limits : Limits) (m : Machine) (call : Call) where
  -- Either 20 is given and the machine is the same, or it is well formed and the call is answered.
  pub run-either : (P : Outcome → Type 0) → P (outcome (Refused 20) m) → (well_formed limits m ≡ true → P (answer_to limits m call))
      → P (run limits m call)
  unfolding run settled if_done
  run-either P bad formed = pick (well_formed limits m) refl
    where
      pick : (b : Bool) → well_formed limits m ≡ b → P (cond b (answer_to limits m call) (settled m (Refused 20) m))
      pick true e = formed e
      pick false e = bad

  -- A well formed machine answers.
  pub run_answers : well_formed limits m ≡ true → run limits m call ≡ answer_to limits m call
  unfolding run
  run_answers e = rw e

-- What follows from what is promised unless a call is done is promised too.
pub unless_so : (a : Answer) (P Q : Type 0) → (P → Q) → unless_done a P → unless_done a Q
unfolding unless_done
unless_so Done P Q f w = Prim.tt
unless_so Delivered P Q f w = f w
unless_so Held P Q f w = f w
unless_so (Refused n) P Q f w = f w
