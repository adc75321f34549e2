-- Every sheet holds, by computation.
use mathlib.Core.Path.{◌≡◌, refl}
use mathlib.Core.List.{map}
use Rattle.numerals.specs.Numerals.{numeral, spell, decimal_width, decimal_of}
use Rattle.rules.specs.Judge.{text_number, numbers_of, report_of, report, line_bytes, lines_bytes, printed}
use Rattle.cases.specs.Printed.{given, expected, verdicts, sheets}
use Rattle.cases.proofs.Computing.{computing}

pub sheets_hold : map given verdicts ≡ sheets
unfolding computing text_number numbers_of report_of report line_bytes lines_bytes printed numeral spell decimal_width decimal_of given expected verdicts sheets
sheets_hold = refl
