-- The key, the digits, byte 10.
use Rattle.report.proofs.Printed.{newline_room, figure_appended, figure_end}
use Rattle.report.proofs.append_figure.Goals as goal

pub append-requires : goal.append-requires
append-requires c = newline_room _ _ _ _ c.requires _ _ c.append-a.ensures _ _ c.write_decimal-b.ensures

pub returns : goal.returns
returns c =
    let done = figure_appended _ _ _ _ c.requires _ _ c.append-a.ensures _ _ c.write_decimal-b.ensures _ _ c.append.ensures in
    record { appends = done; end = figure_end c.args.key.now c.args.figure done }
