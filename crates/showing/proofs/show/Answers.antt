-- Of the judge's own verdict, whose part lies in its text.
use Rattle.showing.proofs.Parts.{judged_bytes}
use Rattle.showing.proofs.Inside.{judged_place}
use Rattle.showing.proofs.show.Goals as goal

pub returns : goal.returns
returns c = record { result_value = search judged_bytes; place = search judged_place }
