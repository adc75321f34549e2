-- Each row is asked by the mask of its offenders: those before it were kept, and at the first that is broken, or at the last, the code is done.
use Rattle.edges.proofs.Offenders.{row_stops, row_goes, row_ends, rows_asked}
use Rattle.edges.proofs.check_edge.Goals as goal

pub returns-in_err-check_rule : goal.returns-in_err-check_rule
returns-in_err-check_rule c = search (rows_asked, row_stops, c.in_err-check_rule.was)

pub returns-in_err-check_rule-2 : goal.returns-in_err-check_rule-2
returns-in_err-check_rule-2 c = search (rows_asked, row_goes, row_stops, c.in_ok-check_rule.was, c.in_err-check_rule-2.was)

pub returns-in_err-check_rule-3 : goal.returns-in_err-check_rule-3
returns-in_err-check_rule-3 c = search (rows_asked, row_goes, row_stops, c.in_ok-check_rule.was, c.in_ok-check_rule-2.was, c.in_err-check_rule-3.was)

pub returns-in_err-check_rule-4 : goal.returns-in_err-check_rule-4
returns-in_err-check_rule-4 c =
    search (rows_asked, row_goes, row_stops, c.in_ok-check_rule.was, c.in_ok-check_rule-2.was, c.in_ok-check_rule-3.was, c.in_err-check_rule-4.was)

pub returns : goal.returns
returns c =
    search (rows_asked, row_goes, row_ends, c.in_ok-check_rule.was, c.in_ok-check_rule-2.was, c.in_ok-check_rule-3.was, c.in_ok-check_rule-4.was) depth 6 fits 4000
