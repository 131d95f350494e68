-- Document 01's figures hold of the definitions, over the whole table.
-- Assumes nothing.
use mathlib.Core.Path.{refl}
use Rattle.profile.specs.Model.{video_high_level}
use Rattle.profile.specs.Figures.{high_level_rows, HighLevelHolds}

pub high_level_figures : HighLevelHolds high_level_rows
unfolding video_high_level
high_level_figures = (refl, tt)
