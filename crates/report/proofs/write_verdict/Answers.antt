-- By the verdict.
use Rattle.report.proofs.Printed.{accepted_written, same_written}
use borrow.Author.Rules.{rules}
use Rattle.report.proofs.write_verdict.Goals as goal

pub returns-in-Accepted : goal.returns-in-Accepted
returns-in-Accepted c =
    let p = same_written _ _ _ _ _ c.in-Accepted.is (accepted_written _ _ _ c.append.ensures (search rules) (search rules)) in
    record { value = p.0; room = p.1 }

pub returns-in-Broken : goal.returns-in-Broken
returns-in-Broken c =
    let done = c.write_broken.ensures in
    let p = same_written _ _ _ _ _ c.in-Broken.is (done.value, done.room) in
    record { value = p.0; room = p.1 }

pub returns-in-Unread : goal.returns-in-Unread
returns-in-Unread c =
    let done = c.write_unread.ensures in
    let p = same_written _ _ _ _ _ c.in-Unread.is (done.value, done.room) in
    record { value = p.0; room = p.1 }
