-- Each payload of the table, at a start, has the runs that stand beside it.
-- Assumes nothing.
use mathlib.Core.Path.{◌≡◌, refl}
use mathlib.Core.Bool.{true}
use mathlib.Core.List.{List, [], ◌∷◌}
use lib.ListN.{length}
use Rattle.syntax.specs.Table.{field, fields_from}
use Rattle.syntax.specs.Bits.{bit, bits}
use Rattle.syntax.specs.TimeStamp.{stamp33}
use Rattle.syntax.specs.Pes.{table_2_21, pts, dts}
use Rattle.pes.specs.StreamId.{has_optional_header}
use Rattle.scanner.specs.Unit.{stamp_bytes, stamp_end_by, content_begin_by, decode_ts_by, stamp_end, content_begin, stamp_of, cut, runs_of, none, runs_in, next_open}
use Rattle.scanner.specs.Figures.{Figure, figures}

abbrev Holds : List Figure → Type 0
Holds [] = Unit {0}
Holds (f ∷ fs) = (runs_in (next_open none true f.payload) (length f.payload) ≡ f.runs) × Holds fs

pub figures_hold : Holds figures
unfolding runs_of cut stamp_end content_begin stamp_of stamp_end_by content_begin_by decode_ts_by stamp_bytes has_optional_header pts dts stamp33 field fields_from table_2_21 bits bit
figures_hold = (refl, (refl, tt))
