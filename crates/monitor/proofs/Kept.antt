-- A call that is not done hands back the state that it got: what stands in its fields is literally what stood there.
use Prim.Native.Nat.{ℕ}
use mathlib.Core.Path.{◌≡◌, ap, subst}
use Rattle.machine.specs.declared.{State.{State}, Answer.{Answer}, Answered.{Answered}}
use Rattle.machine.specs.Machine.{send, Outcome, box_limits, run}
use Rattle.machine.specs.State.{Cells, cells_of, machine_of, outcome_of, unless_done}
use Rattle.machine.proofs.Outcomes.{unless_so}
use Rattle.machine.proofs.Told.{send_stays}
use Rattle.population.specs.declared.Counts.{Counts}
use Rattle.population.specs.Lent.{counts, Same}

-- The state with other counts and cells.
abbrev pub rebuilt : State → Counts → Cells → State
rebuilt s n d = record {
  plan = s.plan;
  next = n.next;
  live = n.live;
  serials = d.serials;
  templates = d.templates;
  labels = d.labels;
  tags = d.tags;
}

same_state : (s : State) (n : Counts) (d : Cells) → Same (counts s.next s.live) (cells_of s) n d → rebuilt s n d ≡ s
same_state s n d w = λ i. rebuilt s (w.same_counts i) (w.same_cells i)

pub kept : (s : State) (a : Answer) (n : Counts) (d : Cells) → unless_done a (Same (counts s.next s.live) (cells_of s) n d) → unless_done a (rebuilt s n d ≡ s)
kept s a n d w = unless_so a (Same (counts s.next s.live) (cells_of s) n d) (rebuilt s n d ≡ s) (same_state s n d) w

-- A send hands back the state that it got, whatever it answers.
pub sent_kept : (s : State) (r : Answered) (from to : ℕ) → outcome_of r ≡ run box_limits (machine_of s) (send from to) → unless_done r.answer (r.state ≡ s) → r.state ≡ s
unfolding outcome_of
sent_kept s r from to e w =
    send_stays box_limits (machine_of s) from to (r.state ≡ s) (subst (λ (a : Answer). unless_done a (r.state ≡ s)) (ap (λ (o : Outcome). o.answer) e) w)
