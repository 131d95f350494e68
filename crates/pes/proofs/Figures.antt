-- The time stamps of document 01 hold: one theorem over the table. Assumes nothing.
use mathlib.Core.Path.{◌≡◌, refl}
use mathlib.Core.Bool.{true}
use Rattle.pes.specs.Figures.{figures, all_hold}
use Rattle.syntax.specs.Bits.{bit, bits}
use Rattle.syntax.specs.Table.{field, fields_from}
use Rattle.syntax.specs.TimeStamp.{stamp33, table_stamp, timestamp}

pub figures_hold : all_hold figures ≡ true
unfolding timestamp stamp33 table_stamp field fields_from bits bit
figures_hold = refl
