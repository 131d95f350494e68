-- The table of document 01's figure for merging holds, row by row.
use mathlib.Core.Path.{◌≡◌, refl}
use mathlib.Core.List.{map}
use Rattle.report.specs.Violation.{fields_of, key_of, worse, with_figure, merge_of}
use Rattle.report.specs.Keys.{has_key}
use Rattle.report.specs.Report.{empty_report}
use Rattle.report.specs.Record.{keys_of, record_line, refuses, with_lines, recorded, record_all}
use Rattle.report.specs.Example.{rows, made}

pub figures : map made rows ≡ rows
unfolding rows made record_all recorded refuses with_lines record_line keys_of has_key key_of merge_of with_figure worse fields_of empty_report
figures = refl
