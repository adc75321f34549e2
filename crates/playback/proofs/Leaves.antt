-- A call on lent arrays, told of the memory that they are: what it did there is what it leaves.
use mathlib.Core.Path.{◌≡◌, ap, subst}
use Rattle.plan.specs.declared.Plan.{Plan}
use Rattle.machine.specs.declared.Answer.{Answer}
use Rattle.machine.specs.Machine.{Machine, Call, step, send, raise, lower, Outcome, box_limits, run}
use Rattle.machine.specs.State.{Cells, unless_done}
use Rattle.machine.proofs.Outcomes.{unless_so}
use Rattle.machine.proofs.Told.{send_stays}
use Rattle.population.specs.declared.Counts.{Counts}
use Rattle.population.specs.Lent.{Same, LabelsAlone as Lent, unless_step, Did}
use Rattle.playback.specs.Running.{Memory, machine_in, LabelsAlone, Touches, Leaves}

-- The memory that the counts and the arrays are.
abbrev pub memory_at : Counts → Cells → Memory
memory_at n c = record { next = n.next; live = n.live; cells = c }

module _ (n : Counts) (c : Cells) (n' : Counts) (d : Cells) where
  abbrev met : Memory
  met = memory_at n c

  abbrev left : Memory
  left = memory_at n' d

  same_memory : Same n c n' d → left ≡ met
  same_memory w = λ i. memory_at (w.same_counts i) (w.same_cells i)

  labels_alone : Lent n c n' d → LabelsAlone met left
  labels_alone w = record {
    next = ap (λ (n : Counts). n.next) w.counts_stay;
    live = ap (λ (n : Counts). n.live) w.counts_stay;
    serials = w.serials_stay;
    templates = w.templates_stay;
    tags = w.tags_stay;
  }

  touched : (call : Call) (m : Machine) → unless_done (run box_limits m call).answer (left ≡ met) → unless_step call (Lent n c n' d)
      → Touches call met left
  unfolding Touches unless_step
  touched (step s branch) m u w = Prim.tt
  touched (send from to) m u w = send_stays box_limits m from to (left ≡ met) u
  touched (raise s i) m u w = labels_alone w
  touched (lower s i) m u w = labels_alone w

  -- What a call on lent arrays did is what it leaves of the memory.
  pub did_leaves : (plan : Plan) (call : Call) (a : Answer) → Did plan n c call a n' d → Leaves plan call met left
  unfolding machine_in
  did_leaves plan call a w =
      let kept : unless_done (run box_limits (machine_in plan met) call).answer (left ≡ met) =
      subst (λ (o : Outcome). unless_done o.answer (left ≡ met)) w.means
      (unless_so a (Same n c n' d) (left ≡ met) same_memory w.same) in
      record {
        does = record { machine = ap (λ (o : Outcome). o.machine) w.means; literal = kept };
        touches = touched call (machine_in plan met) kept w.others;
      }
