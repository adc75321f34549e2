-- What start leaves, as the code meets it: `begun` is what starting::start gave.
use Prim.Native.Nat.{ℕ}
use mathlib.Core.Path.{◌≡◌, refl, sym, ap, ◌∙◌}
use mathlib.Core.List.{List, [], ◌∷◌}
use mathlib.Core.Option.{some}
use Rattle.plan.specs.declared.Plan.{Plan}
use Rattle.text.specs.Reading.{read_plan}
use Rattle.rules.specs.declared.Verdict.{Verdict}
use Rattle.rules.specs.declared.Verdict.TheVariants.{Accepted, Broken, Unread}
use Rattle.rules.specs.Judge.{judge, numbers_of}
use Rattle.machine.specs.declared.Started.{Started}
use Rattle.machine.specs.Machine.{Machine, start}
use Rattle.machine.specs.State.{Cells, machine_from, machine_of, started_state, start_on, started}
use Rattle.planrow.specs.Row.{plan_of_row, row_of_plan}
use Rattle.planrow.proofs.RoundTrip.{none_means}
use Rattle.starting.proofs.Starting.{accepted_means}
use Rattle.playback.specs.Running.{memory_of, machine_in}
use Rattle.memory.specs.Memory.{held}
use Rattle.embed.specs.Embed.{Starts}

module _ (plan_text policy_text : List ℕ) where
  started_means : (v : Verdict) → judge plan_text policy_text ≡ v
      → plan_of_row (row_of_plan (start_on v (read_plan plan_text).plan).plan) ≡ some (start_on v (read_plan plan_text).plan).plan
  unfolding start_on start machine_of machine_from
  started_means Accepted e = accepted_means plan_text policy_text e
  started_means (Broken b) e = none_means
  started_means (Unread f) e = none_means

  module _ (begun : Started) (w : (begun.verdict ≡ judge plan_text policy_text) × (machine_of begun.state ≡ started plan_text policy_text) × (begun.state ≡ started_state plan_text policy_text)) where
    same_plan : begun.state.plan ≡ (started plan_text policy_text).plan
    unfolding machine_of machine_from
    same_plan = ap (λ (m : Machine). m.plan) w.1

    pub starts_so : (words row : List ℕ) → words ≡ numbers_of begun.verdict → row ≡ row_of_plan begun.state.plan
        → Starts plan_text policy_text words row (held (begun.state.next ∷ begun.state.live ∷ []) begun.state.serials begun.state.templates begun.state.labels begun.state.tags)
    unfolding started machine_in machine_of
    starts_so words row ew er = record {
      judged = ew ∙ ap numbers_of w.0;
      written = er ∙ ap row_of_plan same_plan;
      means = ap plan_of_row (er ∙ ap row_of_plan same_plan) ∙ started_means (judge plan_text policy_text) refl;
      machine =
          ap (λ (p : Plan). machine_from p begun.state.next begun.state.live cells) (sym same_plan) ∙ w.1;
      left = ap memory_of w.2;
    }
      where
        cells : Cells
        cells = record { serials = begun.state.serials; templates = begun.state.templates; labels = begun.state.labels; tags = begun.state.tags }
