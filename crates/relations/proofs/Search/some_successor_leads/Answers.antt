use Rattle.std.proofs.Common.{rules}
use Rattle.relations.proofs.Steps.{either_leads}
use Rattle.relations.proofs.Search.some_successor_leads.Goals as goal

pub returns-then-one : goal.returns-then-one
returns-then-one c = search (rules, either_leads)

pub returns-else-one : goal.returns-else-one
returns-else-one c = search (rules, either_leads)
