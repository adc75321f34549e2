use Rattle.planrow.specs.Lookup.{plan_for}
use Rattle.playback.specs.Running.{memory}
use Rattle.running.proofs.Runs.{Stands}
use Rattle.running.proofs.run_calls.Given as goal

abbrev pub invariant-loop-i : goal.invariant-loop-i
invariant-loop-i l = Stands (plan_for l.row) l.calls l.n l.i l.initial.answers (memory l.initial.counts.next l.initial.counts.live l.initial.serials l.initial.templates l.initial.labels l.initial.tags) (memory l.counts.next l.counts.live l.serials l.templates l.labels l.tags) l.answers
