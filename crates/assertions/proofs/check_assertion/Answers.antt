-- By the kind, which is that of the arm.
use Rattle.assertions.proofs.Order.{secrecy_kind, prot_kind}
use Rattle.assertions.proofs.check_assertion.Goals as goal

pub returns-in-Secrecy : goal.returns-in-Secrecy
returns-in-Secrecy c = search secrecy_kind

pub returns-in-Prot : goal.returns-in-Prot
returns-in-Prot c = search prot_kind
