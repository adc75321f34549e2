use mathlib.Core.Path.{◌≡◌}
use Rattle.relations.proofs.Steps.{seeking}
use Rattle.relations.proofs.Search.new.Given as goal

abbrev pub invariant-loop-x : goal.invariant-loop-x
invariant-loop-x l = l.search ≡ seeking l.initial.search.layout l.initial.search.barred l.via l.initial.search.to.source.place l.initial.search.to.sink.place l.x
