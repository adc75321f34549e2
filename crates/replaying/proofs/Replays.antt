-- What replay hands back, as the code meets it: v and s are what start gave, and g whether v is accepted.
use Prim.Native.Nat.{ℕ}
use mathlib.Core.Path.{◌≡◌, refl, sym, ap, ◌∙◌, subst}
use mathlib.Core.Logic.{◌≢◌}
use mathlib.Core.Bool.{Bool, true, false, not}
use mathlib.Core.List.{List}
use lib.ListN.{length}
use borrow.Author.Tests.{not-true, not-false}
use Rattle.plan.specs.declared.Plan.{Plan}
use Rattle.text.specs.Reading.{read_plan}
use Rattle.rules.specs.declared.Verdict.{Verdict}
use Rattle.rules.specs.declared.Verdict.TheVariants.{Accepted, Broken, Unread}
use Rattle.rules.specs.Judge.{judge}
use Rattle.rules.specs.Broken.{accepted}
use Rattle.rules.proofs.Walk.{accepted_is}
use Rattle.machine.specs.declared.State.{State}
use Rattle.machine.specs.Machine.{Machine, Call, box_limits}
use Rattle.machine.specs.State.{machine_of, root_state, state_on, started_state, started}
use Rattle.starting.proofs.Starting.{root_machine, not_accepted, stays_blank}
use Rattle.promise.specs.History.{world_after}
use Rattle.promise.specs.Replay.{machine_after, calls_in}
use Rattle.promise.proofs.Promise.{box_promise}
use Rattle.playback.specs.Playback.{Does, playable, Replays}
use Rattle.playback.specs.Running.{PlayedAll}
use Rattle.playback.proofs.Through.{played_told}
use Rattle.playback.proofs.Machines.{world_machine}

none_playable : (v : Verdict) → v ≢ Accepted → (words places : ℕ) → 0 ≡ playable v words places
unfolding playable
none_playable Accepted n words places = absurd (n refl)
none_playable (Broken b) n words places = refl
none_playable (Unread f) n words places = refl

-- The world's machine is the one that the calls lead to from the root's state.
reaches : (plan : Plan) (declass : ℕ) (calls : List Call)
    → (world_after box_limits plan declass calls).machine ≡ machine_after box_limits (machine_of (root_state plan)) calls
reaches plan declass calls =
    world_machine box_limits declass plan calls ∙ ap (λ (m : Machine). machine_after box_limits m calls) (sym (root_machine plan))

module _ (plan_text policy_text words before : List ℕ) (v : Verdict) (s : State)
    (w : (v ≡ judge plan_text policy_text) × (machine_of s ≡ started plan_text policy_text) × (s ≡ started_state plan_text policy_text))
    (g : Bool) (eg : g ≡ accepted v) where
  -- The state that start gives beside the verdict v.
  begun : s ≡ state_on v (read_plan plan_text).plan
  unfolding started_state
  begun = w.2 ∙ ap (λ (v : Verdict). state_on v (read_plan plan_text).plan) (sym w.0)

  pub replays_not : not g ≡ true → Replays plan_text policy_text words before v 0 s before
  replays_not h =
      let n : v ≢ Accepted = not_accepted v (sym eg ∙ not-true g h) in
      record {
        judged = w.0;
        counted = none_playable v n (length words) (length before);
        played = λ a. absurd (n a);
        promised = λ a. absurd (n a);
        untouched = λ n. (begun ∙ stays_blank v n (read_plan plan_text).plan, refl);
      }

  rooted : v ≡ Accepted → s ≡ root_state (read_plan plan_text).plan
  unfolding state_on
  rooted a = begun ∙ ap (λ (v : Verdict). state_on v (read_plan plan_text).plan) a

  pub replays_so : not g ≡ false → (n : ℕ) (left : State) (after : List ℕ) → PlayedAll machine_of (Does machine_of) words s before n left after
      → Replays plan_text policy_text words before v n left after
  unfolding playable
  replays_so h n left after p =
      let a : v ≡ Accepted = accepted_is v (sym eg ∙ not-false g h) in
      record {
        judged = w.0;
        counted = p.counted ∙ ap (λ (v : Verdict). playable v (length words) (length before)) (sym a);
        played = λ a declass.
            played_told machine_of (Does machine_of) _ _ (reaches (read_plan plan_text).plan declass) n words (root_state (read_plan plan_text).plan) before left after
            (subst (λ (s : State). PlayedAll machine_of (Does machine_of) words s before n left after) (rooted a) p).played;
        promised = λ a. box_promise plan_text policy_text (sym w.0 ∙ a) (calls_in n words);
        untouched = λ o. absurd (o a);
      }
