-- By the lowest item below the limit, where there is one.
use Rattle.edges.proofs.Offenders.{rule_kept, rule_broken}
use Rattle.edges.proofs.check_rule.Goals as goal

pub returns-in-None : goal.returns-in-None
returns-in-None c = search (rule_kept c.args.limit c.args.m)

pub returns-in-Some : goal.returns-in-Some
returns-in-Some c = search (rule_broken c.args.limit c.args.m)
