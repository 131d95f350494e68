-- The figures of document 01 hold of the definition: every row by one computation.
use mathlib.Core.Path.{◌≡◌, refl}
use mathlib.Core.List.{map}
use Rattle.std.specs.Prelude.{Ok}
use Rattle.clock.specs.Timestamp.{epochs_around, candidates, none_closer, first, nearest, nearest_timestamp, extend_near}
use Rattle.clock.specs.Figures.{Row, extend_near_rows}

pub rows_hold : map (λ (r : Row). extend_near r.raw r.reference) extend_near_rows ≡ map (λ (r : Row). Ok r.timestamp) extend_near_rows
unfolding extend_near_rows epochs_around candidates none_closer first nearest nearest_timestamp extend_near
rows_hold = refl
