-- The work and chain row that a replay needs, and the refusals 1, 2 and 3 in that order (document 01).
use Rattle.std.specs.Prelude.{ℕ, ◌+◌, ◌*◌, ◌^◌, ◌≤◌, ◌<◌, Bool, cond, ◌&&◌, leb, eqb, Result, Ok, Err}
use Rattle.error.specs.declared.Refusal.{Refusal}
use Rattle.profile.specs.declared.config.TStdConfig.{TStdConfig}
use Rattle.profile.specs.declared.limits.Limits.{Limits}
use Rattle.profile.specs.declared.work.WorkSize.{WorkSize}
use Rattle.profile.specs.Range.{max_streams, max_clock_depth}
use Rattle.profile.specs.Limits.{within_limits}

abbrev pub times_needed : (streams queueDepth clockDepth : ℕ) → ℕ
times_needed streams queueDepth clockDepth = 8 * queueDepth * streams + 3 * clockDepth

-- one record for each stream, one more where there are system PIDs
abbrev pub row_len : (streams system : ℕ) → ℕ
row_len streams system = cond (eqb system 0) streams (streams + 1)

unfoldable pub needed_of : TStdConfig → WorkSize
needed_of c =
    record {
      times = times_needed c.stream_count c.queue_depth c.clock_depth;
      places = 2 * c.clock_depth;
      row = row_len c.stream_count c.system_count;
    }

-- the figures of `needed_of` fit a machine word
pub record Formed (c : TStdConfig) : Type 0 where
  pub streams : c.stream_count ≤ max_streams
  pub clock : c.clock_depth ≤ max_clock_depth
  pub times : times_needed c.stream_count c.queue_depth c.clock_depth < 2 ^ 64

-- the work and row lent are long enough
unfoldable pub covers : (lent needed : WorkSize) → Bool
covers lent needed =
    leb needed.times lent.times && leb needed.places lent.places && leb needed.row lent.row

unfoldable pub check_of : Limits → TStdConfig → (lent : WorkSize) → (recording : ℕ) → Result WorkSize Refusal
check_of limits c lent recording =
    cond (within_limits limits c)
    (cond (covers lent (needed_of c))
    (cond (leb recording limits.longest_recording)
    (Ok (needed_of c))
    (Err Refusal.RecordingTooLong))
    (Err Refusal.WorkTooShort))
    (Err Refusal.OutsideLimits)
