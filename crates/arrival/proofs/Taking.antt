-- A sample taken: what a build and a sample are whose numbers stay within 64 bits.
use Rattle.std.proofs.Common.{◌≡◌, ◌^◌, ◌<◌, true, ltb-true}
use Rattle.std.proofs.lemmas.Bool.{and_parts}
use Rattle.arrival.specs.declared.Sample.{Sample}
use Rattle.arrival.specs.declared.ClockBuild.{ClockBuild}
use Rattle.arrival.specs.Pass.{in_range}

-- the numbers of a build and a sample are below 2 ^ 63
pub record InRange (b : ClockBuild) (s : Sample) : Type 0 where
  pub ticks_below : s.ticks < 2 ^ 63
  pub samples_below : b.samples < 2 ^ 63
  pub extended_below : b.anchor.extended < 2 ^ 63

pub in_range_lem : (b : ClockBuild) (s : Sample) → in_range b s ≡ true → InRange b s
unfolding in_range
in_range_lem b s h =
    let t = and_parts _ _ h in
    let u = and_parts _ _ t.0 in
    record {
      ticks_below = ltb-true s.ticks (2 ^ 63) u.0;
      samples_below = ltb-true b.samples (2 ^ 63) u.1;
      extended_below = ltb-true b.anchor.extended (2 ^ 63) t.1;
    }
