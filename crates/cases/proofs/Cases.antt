-- Every row holds, by computation: reading, judging and the machine run on the bytes of the texts themselves.
use mathlib.Core.Path.{◌≡◌, refl}
use mathlib.Core.List.{map}
use Rattle.rules.specs.Judge.{text_number, numbers_of, report_of, report}
use Rattle.machine.specs.State.{words_from, placed, processes_of, machine_from, machine_of, start_on, started}
use Rattle.promise.specs.Replay.{machine_after}
use Rattle.cases.specs.Base.{with_prot, plan_d, plan_e, full_plan}
use Rattle.cases.specs.Rows.{Row, reply, box, left, rows}
use Rattle.cases.proofs.Computing.{computing}

pub cases : map (λ (r : Row). reply r.asked) rows ≡ map (λ (r : Row). r.told) rows
unfolding computing text_number numbers_of report_of report words_from placed processes_of machine_from machine_of start_on started with_prot plan_d plan_e full_plan reply machine_after box left rows
cases = refl
