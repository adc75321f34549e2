use Rattle.std.proofs.Common.{◌≡◌, ℕ, min, get_or}
use Rattle.lists.specs.Writes.{written}
use Rattle.tagrows.specs.Rows.{child_tag}
use Rattle.tagrows.proofs.write_row.Given as goal

abbrev pub invariant-loop-i : goal.invariant-loop-i
invariant-loop-i l = record {
  start : l.first ≡ min l.from 4064;
  stored : (j : ℕ) → get_or l.tags j 0 ≡ written l.initial.tags l.first l.i (λ k. child_tag l.serial l.creates (get_or l.fn.parent k 0) k) j;
}
