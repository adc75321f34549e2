-- What a list of calls passed through: the machine that it comes to, and the same of another kind of memory that means
-- the same machines.
use Prim.Native.Nat.{ℕ, zero, suc, ◌<◌}
use mathlib.Core.Path.{◌≡◌, refl, sym, ap, ◌∙◌, subst}
use mathlib.Core.Logic.{⊎_elim}
use mathlib.Core.List.{List}
use native.Mathlib.Nat.{not-suc-le-zero, le_of_suc-le-suc, eq-or-lt_of_le}
use lib.ListN.{get_or}
use Rattle.lists.specs.Numbers.{tabulate}
use Rattle.machine.specs.declared.Answer.{Answer}
use Rattle.machine.specs.Machine.{Machine, Call, box_limits, run}
use Rattle.machine.specs.State.{unless_done, code_of}
use Rattle.machine.proofs.Outcomes.{unless_so}
use Rattle.promise.specs.Replay.{machine_after, call_at, calls_in}
use Rattle.playback.specs.Playback.{Does, Through, begun, onward, Played}
use Rattle.playback.specs.Running.{PlayedAll}

-- ---- the machine

-- The machine after the first n calls, call by call from the last on.
unfoldable reached : Machine → (ℕ → Call) → ℕ → Machine
reached m f zero = m
reached m f (suc n) = (run box_limits (reached m f n) (f n)).machine

reached_next : (m : Machine) (f : ℕ → Call) (n : ℕ) → reached m f (suc n) ≡ reached (run box_limits m (f zero)).machine (λ k. f (suc k)) n
unfolding reached
reached_next m f zero = refl
reached_next m f (suc n) = ap (λ (a : Machine). (run box_limits a (f (suc n))).machine) (reached_next m f n)

reached_after : (m : Machine) (f : ℕ → Call) (n : ℕ) → reached m f n ≡ machine_after box_limits m (tabulate n f)
unfolding reached tabulate machine_after
reached_after m f zero = refl
reached_after m f (suc n) = reached_next m f n ∙ reached_after (run box_limits m (f zero)).machine (λ k. f (suc k)) n

-- Where a call does no less than the machine says, memory that was passed through means the machine that the calls leave.
module _ {A : Type 0} (means : A → Machine) (does : Call → A → A → Type 0)
    (told : (call : Call) (a b : A) → does call a b → Does means call a b) where
  through_reached : (f : ℕ → Call) (met : A) {n : ℕ} {left : A} → Through does f met n left → means left ≡ reached (means met) f n
  unfolding reached
  through_reached f met begun = refl
  through_reached f met (onward {n = n} {met = a} {left = b} t w) =
      (told (f n) a b w).machine ∙ ap (λ (a : Machine). (run box_limits a (f n)).machine) (through_reached f met t)

  pub through_machine : (words : List ℕ) (met : A) (n : ℕ) (left : A) → Through does (call_at words) met n left
      → means left ≡ machine_after box_limits (means met) (calls_in n words)
  unfolding calls_in
  through_machine words met n left t = through_reached (call_at words) met t ∙ reached_after (means met) (call_at words) n

-- ---- another kind of memory

-- The machine that is reached, told in another way.
pub played_told : {A : Type 0} (means : A → Machine) (does : Call → A → A → Type 0) (reached reached' : List Call → Machine)
    → ((calls : List Call) → reached' calls ≡ reached calls)
    → (n : ℕ) (words : List ℕ) (met : A) (before : List ℕ) (left : A) (after : List ℕ) → Played means does reached n words met before left after
    → Played means does reached' n words met before left after
played_told means does reached reached' alike n words met before left after w = record {
  machine = w.machine ∙ sym (alike (calls_in n words));
  through = w.through;
  each = λ j h.
      w.each j h ∙ ap (λ (m : Machine). code_of (run box_limits m (call_at words j)).answer) (sym (alike (calls_in j words)));
  rest = w.rest;
}

-- On the other kind calls have the same answers, and what a call leaves of the one it leaves of the other.
module _ {A B : Type 0} (means : A → Machine) (does : Call → A → A → Type 0)
    (told : (call : Call) (a b : A) → does call a b → Does means call a b) (means' : B → Machine) (g : A → B)
    (agrees : (a : A) (call : Call) → (run box_limits (means' (g a)) call).answer ≡ (run box_limits (means a) call).answer)
    (leaves : (a b : A) (call : Call) → Does means call a b → means' (g b) ≡ (run box_limits (means' (g a)) call).machine) where
  does_along : (a b : A) (call : Call) → Does means call a b → Does means' call (g a) (g b)
  does_along a b call w = record {
    machine = leaves a b call w;
    literal = subst (λ (o : Answer). unless_done o (g b ≡ g a)) (sym (agrees a call))
        (unless_so (run box_limits (means a) call).answer (b ≡ a) (g b ≡ g a) (ap g) w.literal);
  }

  through_along : (f : ℕ → Call) (met : A) {n : ℕ} {left : A} → Through does f met n left → Through (Does means') f (g met) n (g left)
  through_along f met begun = begun
  through_along f met (onward {n = n} {met = a} {left = b} t w) = onward (through_along f met t) (does_along a b (f n) (told (f n) a b w))

  -- The memory that call j met.
  through_at : (f : ℕ → Call) (met : A) {n : ℕ} {left : A} → Through does f met n left → (j : ℕ) → j < n → (a : A) × Through does f met j a
  through_at f met begun j h = absurd (not-suc-le-zero h)
  through_at f met (onward {n = n} {met = a} t w) j h =
      ⊎_elim (λ q. (a, subst (λ (k : ℕ). Through does f met k a) (sym q) t)) (through_at f met t j) (eq-or-lt_of_le (le_of_suc-le-suc h))

  -- What was played on the one was played on the other.
  pub played_along : (words : List ℕ) (met : A) (before : List ℕ) (n : ℕ) (left : A) (after : List ℕ)
      → PlayedAll means does words met before n left after → PlayedAll means' (Does means') words (g met) before n (g left) after
  played_along words met before n left after w = record {
    counted = w.counted;
    played = record {
      machine = through_machine means' (Does means') (λ call a b w. w) words (g met) n (g left) through;
      through = through;
      each = λ j h. each j h (through_at (call_at words) met w.played.through j h);
      rest = w.played.rest;
    };
  }
    where
      through : Through (Does means') (call_at words) (g met) n (g left)
      through = through_along (call_at words) met w.played.through

      each : (j : ℕ) → j < n → (a : A) × Through does (call_at words) met j a
          → get_or after j 0 ≡ code_of (run box_limits (machine_after box_limits (means' (g met)) (calls_in j words)) (call_at words j)).answer
      each j h (a, t) =
          w.played.each j h
          ∙ ap (λ (m : Machine). code_of (run box_limits m (call_at words j)).answer) (sym (through_machine means does told words met j a t))
          ∙ ap code_of (sym (agrees a (call_at words j)))
          ∙ ap (λ (m : Machine). code_of (run box_limits m (call_at words j)).answer) (through_machine means' (Does means') (λ call a b w. w) words (g met) j (g a) (through_along (call_at words) met t))
