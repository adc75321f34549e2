-- The loop over a list of calls on lent arrays, as the code meets it.
use Prim.Native.Nat.{ℕ, zero, suc, ◌+◌, ◌*◌, ◌/◌, min, ◌≤◌, ◌<◌}
use mathlib.Core.Path.{◌≡◌, refl, sym, ap, ap₂, ◌∙◌, subst}
use mathlib.Core.List.{List, []}
use native.Mathlib.Nat.{not-suc-le-zero}
use native.Mathlib.Numerals.{add-one}
use native.Mathlib.Omega.{arith}
use lib.ListN.{length, get_or, set, take, drop, length-set}
use Rattle.std.specs.Simd.{first_chunks}
use Rattle.std.proofs.lemmas.List.{get_or-take, get_or-drop, drop-drop}
use lib.Seq.{get_or-set_other}
use Rattle.lists.proofs.Tabulate.{filled_more}
use Rattle.plan.specs.declared.Plan.{Plan}
use Rattle.machine.specs.declared.Answer.{Answer}
use Rattle.machine.specs.Machine.{Machine, Outcome, box_limits, run}
use Rattle.machine.specs.State.{Cells, call_of, code_of}
use Rattle.population.specs.declared.Counts.{Counts}
use Rattle.population.specs.Lent.{Did}
use Rattle.promise.specs.Replay.{machine_after, call_at, calls_in}
use Rattle.playback.specs.Playback.{Through, begun, onward}
use Rattle.playback.specs.Running.{Memory, machine_in, Leaves, PlayedAll}
use Rattle.playback.proofs.Through.{through_machine}
use Rattle.playback.proofs.Leaves.{memory_at, did_leaves}

-- The number that call j gives after those before it.
abbrev number : Machine → List ℕ → ℕ → ℕ
number m words j = code_of (run box_limits (machine_after box_limits m (calls_in j words)) (call_at words j)).answer

led : (plan : Plan) (words : List ℕ) (met : Memory) (n : ℕ) (left : Memory) → Through (Leaves plan) (call_at words) met n left
    → machine_in plan left ≡ machine_after box_limits (machine_in plan met) (calls_in n words)
led plan = through_machine (machine_in plan) (Leaves plan) (λ call a b w. w.does)

-- Where the loop stands before call i, at the memory `left` with the row `out` of answers.
pub record Stands (plan : Plan) (words : List ℕ) (n i : ℕ) (old : List ℕ) (met left : Memory) (out : List ℕ) : Type 0 where
  pub few : i ≤ n
  pub room : length out ≡ length old
  pub through : Through (Leaves plan) (call_at words) met i left
  pub each : (j : ℕ) → j < i → get_or out j 0 ≡ number (machine_in plan met) words j
  pub rest : (j : ℕ) → i ≤ j → get_or out j 0 ≡ get_or old j 0

pub stands_none : (plan : Plan) (words : List ℕ) (n : ℕ) (met : Memory) (out : List ℕ) → Stands plan words n 0 out met met out
stands_none plan words n met out = record { few = omega arith; room = refl; through = begun; each = λ j h. absurd (not-suc-le-zero h); rest = λ j h. refl }

-- A call that did what the machine does: q is its answer as a number.
pub stands_on : (plan : Plan) (words : List ℕ) (n i : ℕ) (old out : List ℕ) (met : Memory) (before : Counts) (c : Cells) (a : Answer) (after : Counts) (d : Cells) (q : ℕ)
    → Stands plan words n i old met (memory_at before c) out → i < n → n ≤ length old
    → Did plan before c (call_at words i) a after d → q ≡ code_of a
    → Stands plan words n (i + 1) old met (memory_at after d) (set out i q)
unfolding machine_in
stands_on plan words n i old out met before c a after d q s h l w eq =
    let sized = s.room in
    record {
      few = omega arith;
      room = simp length-set sized;
      through = subst (λ (k : ℕ). Through (Leaves plan) (call_at words) met k (memory_at after d)) (sym (add-one i))
          (onward s.through (did_leaves before c after d plan (call_at words i) a w));
      each = filled_more (number (machine_in plan met) words) out i q (omega arith)
          (eq ∙ ap (λ (o : Outcome). code_of o.answer) w.means
          ∙ ap (λ (a : Machine). code_of (run box_limits a (call_at words i)).answer) (led plan words met i (memory_at before c) s.through))
          s.each;
      rest = λ j g. get_or-set_other out i j q 0 (λ w. omega arith) ∙ s.rest j (omega arith);
    }

-- Past the last call.
pub played : (plan : Plan) (words : List ℕ) (n i : ℕ) (old : List ℕ) (met left : Memory) (out : List ℕ)
    → n ≡ min (length words / 3) (length old) → Stands plan words n i old met left out → n ≤ i → PlayedAll (machine_in plan) (Leaves plan) words met old n left out
played plan words n i old met left out en s h =
    let l = s.few in
    let q : i ≡ n = omega arith in
    let t : Through (Leaves plan) (call_at words) met n left = subst (λ (k : ℕ). Through (Leaves plan) (call_at words) met k left) q s.through in
    record {
      counted = en;
      played = record {
        machine = led plan words met n left t;
        through = t;
        each = λ j k. s.each j (omega arith);
        rest = λ j k. s.rest j (omega arith);
      };
    }

-- ---- a call out of the words, three at a time

three_at : (k i : ℕ) (words : List ℕ) → i < k → get_or (first_chunks 3 k words) i [] ≡ take 3 (drop (i * 3) words)
three_at zero i words h = absurd (not-suc-le-zero h)
three_at (suc k) zero words h = refl
three_at (suc k) (suc i) words h =
    three_at k i (drop 3 words) (omega arith) ∙ ap (take 3) (drop-drop (i * 3) 3 words ∙ ap (λ (at : ℕ). drop at words) (omega arith))

-- Call i, of the first n threes.
pub call_of_three : (words : List ℕ) (threes : List (List ℕ)) (n i : ℕ) → threes ≡ first_chunks 3 (length words / 3) words → i < n → n ≤ length words / 3
    → (three : List ℕ) → three ≡ get_or (take n threes) i [] → call_of (get_or three 0 0) (get_or three 1 0) (get_or three 2 0) ≡ call_at words i
call_of_three words threes n i e h l three et =
    ap (λ (kind : ℕ). call_of kind (get_or three 1 0) (get_or three 2 0)) (word 0 (omega arith) ∙ ap (λ (at : ℕ). get_or words at 0) (omega arith))
    ∙ ap₂ (call_of (get_or words (i * 3) 0)) (word 1 (omega arith)) (word 2 (omega arith))
  where
    there : three ≡ take 3 (drop (i * 3) words)
    there = et ∙ get_or-take n threes i [] h ∙ ap (λ (threes : List (List ℕ)). get_or threes i []) e ∙ three_at (length words / 3) i words (omega arith)

    word : (j : ℕ) → j < 3 → get_or three j 0 ≡ get_or words (i * 3 + j) 0
    word j l = ap (λ (three : List ℕ). get_or three j 0) there ∙ get_or-take 3 (drop (i * 3) words) j 0 l ∙ get_or-drop (i * 3) words j 0
