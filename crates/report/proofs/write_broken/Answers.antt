-- Its lines one after the other; 60 bytes at most.
use Prim.Native.Nat.{◌≤◌}
use borrow.Author.Rules.{rules}
use Rattle.report.proofs.Printed.{broken_written, small_width}
use Rattle.report.proofs.write_broken.Goals as goal

pub returns : goal.returns
returns c =
    let h : c.append_figure.result ≤ 64 = search (small_width, rules) in
    let b = rw c.into.ensures at c.append_figure-b.ensures.appends in
    let s = rw c.into-2.ensures at c.append_figure-c.ensures.appends in
    let d = rw c.into-3.ensures at c.append_figure-d.ensures.appends in
    let e = rw c.into-4.ensures at c.append_figure.ensures.appends in
    let p = broken_written c.args.breach _ _ _ _ _ _ _ _ _ _ _ c.append-a.ensures b s d e c.requires h in
    record { value = p.0; room = p.1 }
