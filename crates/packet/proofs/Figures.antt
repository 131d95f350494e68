-- Every figure of document 01 on clock references holds.
-- Assumes nothing.
use mathlib.Core.Path.{◌≡◌, refl}
use mathlib.Core.Bool.{true}
use Rattle.syntax.specs.Bits.{bit, bits}
use Rattle.syntax.specs.Table.{field, fields_from}
use Rattle.syntax.specs.AdaptationField.{table_2_6}
use Rattle.packet.specs.AdaptationField.{pcr_ticks}
use Rattle.packet.specs.Figures.{pcr_figures, pcr_holds}

pub pcr_figures_lem : pcr_holds pcr_figures ≡ true
unfolding pcr_ticks field fields_from table_2_6 bits bit
pcr_figures_lem = refl
