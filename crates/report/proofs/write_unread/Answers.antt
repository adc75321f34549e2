-- Its lines one after the other; 54 bytes at most.
use Prim.Native.Nat.{◌≤◌}
use borrow.Author.Rules.{rules}
use Rattle.numerals.proofs.Digits.{width_le}
use Rattle.report.proofs.Printed.{unread_written, small_width}
use Rattle.report.proofs.write_unread.Goals as goal

pub returns : goal.returns
returns c =
    let h : c.append_figure.result ≤ 64 = search (small_width, width_le, rules) in
    let number = rw c.into.ensures at c.append_figure-c.ensures.appends in
    let p = unread_written c.args.fault _ _ _ _ _ _ _ _ _ c.append-a.ensures c.append_text-b.ensures.appends number c.append_figure.ensures.appends c.requires h in
    record { value = p.0; room = p.1 }
