-- By the lowest offender: none below the limit, or that one.
use Rattle.prot.proofs.Prot.{prot_none, prot_found}
use Rattle.prot.proofs.check_prot.Goals as goal

pub returns-in_default : goal.returns-in_default
returns-in_default c = search prot_none

pub returns : goal.returns
returns c = search prot_found
