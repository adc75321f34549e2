-- `Layout::enter` enters what the search of Search.antt enters, turn by turn (Entering.antt).
use Rattle.route.proofs.Entering.{enter_stops, enter_low, enter_less, enter_less_again, enter-both}
use Rattle.route.proofs.Layout.+enter.Goals as goal

pub returns-then-not-is_open : goal.returns-then-not-is_open
returns-then-not-is_open t c = search enter_stops

pub bounds-self-i : goal.bounds-self-i
bounds-self-i t c = search enter_low

pub enter-after-requires : goal.enter-after-requires
enter-after-requires t c = (search enter_less, tt)

pub bounds-self-i-2 : goal.bounds-self-i-2
bounds-self-i-2 t c = search enter_low

pub enter-requires : goal.enter-requires
enter-requires t c = (search enter_less_again, tt)

pub returns : goal.returns
returns t c = search enter-both
