-- What start hands back, as the code meets it: v is the judge's verdict, and g whether it is accepted.
use Prim.Native.Nat.{ℕ, ◌+◌, ◌*◌}
use mathlib.Core.Path.{◌≡◌, refl, sym, ap, ◌∙◌}
use mathlib.Core.Logic.{◌≢◌}
use mathlib.Core.Bool.{Bool, true, false, not, false≢true}
use mathlib.Core.List.{List, [], ◌∷◌}
use mathlib.Core.Option.{some}
use native.Mathlib.Omega.{arith}
use lib.ListN.{get_or, replicate, get_or-replicate}
use borrow.Author.Tests.{not-true, not-false}
use Rattle.lists.specs.Numbers.{tabulate}
use Rattle.lists.proofs.Length.{get_or-same}
use Rattle.lists.proofs.Tabulate.{tabulate_ext}
use Rattle.plan.specs.declared.Plan.{Plan}
use Rattle.plan.specs.Plan.{at}
use Rattle.std.specs.Prelude.{Result, Ok, Err}
use Rattle.std.specs.Result.{result_unwrap_or}
use Rattle.text.specs.declared.Refused.{Refused as RefusedLine}
use Rattle.text.specs.Reading.{PlanRead, read_plan, no_plan}
use Rattle.text.specs.Answers.{plan_read}
use Rattle.reader.proofs.Range.{plan_in_range}
use Rattle.planrow.specs.Row.{plan_of_row, row_of_plan}
use Rattle.planrow.proofs.RoundTrip.{round_trip}
use Rattle.rules.specs.declared.Verdict.{Verdict}
use Rattle.rules.specs.declared.Verdict.TheVariants.{Accepted, Broken, Unread}
use Rattle.rules.specs.Judge.{judge}
use Rattle.rules.specs.Broken.{accepted}
use Rattle.rules.proofs.Walk.{accepted_is}
use Rattle.verdict.proofs.Exact.{accepted_exactly}
use Rattle.machine.specs.declared.State.{State}
use Rattle.machine.specs.Machine.{start, root}
use Rattle.machine.specs.State.{words_from, placed, processes_of, machine_from, machine_of, blank_state, root_state, state_on, started_state, start_on, started}

-- ---- the root's state

-- One process: serial 0 at template 0, with its lab and every tag 0.
pub root_machine : (plan : Plan) → machine_of (root_state plan) ≡ start plan
unfolding machine_of machine_from processes_of placed words_from tabulate start root
root_machine plan = λ k.
    record {
      plan = plan;
      next = 1;
      live =
          record {
            serial = get_or-same ℕ 128 0 0 k;
            template = get_or-same ℕ 128 0 0 k;
            label = get_or-replicate 128 0 (at plan 0).lab 0 (omega arith) k;
            tags = tabulate_ext plan.identifiers (λ i. get_or (replicate 4096 0) (0 * plan.identifiers + i) 0) (λ i. 0)
                (λ i h. get_or-same ℕ 4096 (0 * plan.identifiers + i) 0) k;
          }
          ∷ [];
    }

-- ---- the verdict

pub not_accepted : (v : Verdict) → accepted v ≡ false → v ≢ Accepted
unfolding accepted
not_accepted v e a = absurd (false≢true (sym e ∙ ap accepted a))

-- The state that start hands back means the machine that it starts.
state_machine : (v : Verdict) (plan : Plan) → machine_of (state_on v plan) ≡ start_on v plan
unfolding start_on state_on
state_machine Accepted plan = root_machine plan
state_machine (Broken b) plan = refl
state_machine (Unread f) plan = refl

pub stays_blank : (v : Verdict) → v ≢ Accepted → (plan : Plan) → state_on v plan ≡ blank_state
unfolding state_on
stays_blank Accepted n plan = absurd (n refl)
stays_blank (Broken b) n plan = refl
stays_blank (Unread f) n plan = refl

or_no_plan : (read : Result Plan RefusedLine) → result_unwrap_or read no_plan ≡ (plan_read read).plan
or_no_plan (Ok p) = refl
or_no_plan (Err r) = refl

module _ (plan_text policy_text : List ℕ) (v : Verdict) (ev : v ≡ judge plan_text policy_text) (g : Bool) (eg : g ≡ accepted v) where
  abbrev Begun : State → Type 0
  Begun s = (v ≡ judge plan_text policy_text) × (machine_of s ≡ started plan_text policy_text) × (s ≡ started_state plan_text policy_text)

  begun : (s : State) → s ≡ state_on v (read_plan plan_text).plan → Begun s
  unfolding started started_state
  begun s e =
      let so : s ≡ started_state plan_text policy_text = e ∙ ap (λ (v : Verdict). state_on v (read_plan plan_text).plan) ev in
      (ev, ap machine_of so ∙ state_machine (judge plan_text policy_text) (read_plan plan_text).plan, so)

  pub started_not : not g ≡ true → (s : State) → s ≡ blank_state → Begun s
  started_not h s e = begun s (e ∙ sym (stays_blank v (not_accepted v (sym eg ∙ not-true g h)) (read_plan plan_text).plan))

  -- read is the answer of `read_plan`, none the blank plan, and p the one of them that is there.
  pub started_so : not g ≡ false → (read : Result Plan RefusedLine) → plan_read read ≡ read_plan plan_text → (none p : Plan) → none ≡ no_plan
      → p ≡ result_unwrap_or read none → (s : State) → s ≡ root_state p → Begun s
  unfolding state_on
  started_so h read er none p en ep s e =
      begun s
      (e ∙ ap root_state (ep ∙ ap (result_unwrap_or read) en ∙ or_no_plan read) ∙ ap (λ (r : PlanRead). root_state r.plan) er
      ∙ ap (λ (v : Verdict). state_on v (read_plan plan_text).plan) (sym (accepted_is v (sym eg ∙ not-false g h))))

-- ---- the row of a started plan

-- An accepted plan is what its row means.
pub accepted_means : (plan_text policy_text : List ℕ) → judge plan_text policy_text ≡ Accepted
    → plan_of_row (row_of_plan (read_plan plan_text).plan) ≡ some (read_plan plan_text).plan
accepted_means plan_text policy_text e =
    round_trip (read_plan plan_text).plan (plan_in_range plan_text ((accepted_exactly plan_text policy_text).0 e).plan_reads)
