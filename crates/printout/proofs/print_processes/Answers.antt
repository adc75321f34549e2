-- One place more is its line after the lines before it.
use Rattle.std.proofs.Common.{◌≡◌, ℕ, ◌+◌, ◌++◌, subst, sym, ap}
use Rattle.std.specs.Io.KnownBytes.{Appends}
use Rattle.std.proofs.KnownBytes.{Appends-trans}
use native.Mathlib.Numerals.{add-one}
use Rattle.machine.specs.declared.State.{State}
use Rattle.printout.specs.Lines.{process_lines, process_line_at}
use Rattle.printout.proofs.print_processes.Goals as goal

one_more : (s : State) (n : ℕ) → process_lines s (n + 1) ≡ process_lines s n ++ process_line_at s n
one_more s n = ap (process_lines s) (add-one n)

pub loop-place-preserved : goal.loop-place-preserved
loop-place-preserved g c =
    let l = c.loop-place in
    subst (Appends (g.W.Write.contents c.args.out.now) (g.W.Write.contents c.print_process.new.out)) (sym (one_more c.args.state.now l.place))
    (Appends-trans _ _ _ _ _ l.invariant c.in_ok-print_process.ensures)
