-- Of the judge's own verdict.
use Rattle.showing.proofs.Parts.{judged_lies}
use Rattle.showing.proofs.locate.Goals as goal

pub returns : goal.returns
returns c = search judged_lies
