-- The configuration of a profile's words: PCR PID, stream count, system count, queue depth, clock depth, then 8 slots of six
-- words for the streams, then 16 system PIDs. What stands in slots past the counts does not enter.
use Rattle.std.specs.Prelude.{ℕ, ◌+◌, ◌*◌, ◌-◌, ◌≡◌, Bool, true, false, cond, ◌&&◌, List, ◌++◌, map, length, get_or, replicate, eqb, leb, Option, MatchOption, Result, Ok, Err}
use Rattle.std.specs.List.{list_all, range_with_len}
use Rattle.error.specs.declared.Refusal.{Refusal}
use Rattle.profile.specs.declared.model.TStdBranch.{TStdBranch}
use Rattle.profile.specs.declared.model.TStdBranch.TheVariants.{Main, Video}
use Rattle.profile.specs.declared.config.TStdStream.{TStdStream}
use Rattle.profile.specs.declared.config.TStdConfig.{TStdConfig}
use Rattle.profile.specs.Range.{max_streams, max_system_pids}
use Rattle.profile.specs.Config.{config, unused_stream}

abbrev pub profile_len : ℕ
profile_len = 69

-- word k of slot i, and the system PID i
abbrev pub slot_word : List ℕ → ℕ → ℕ → ℕ
slot_word ws i k = get_or ws (5 + 6 * i + k) 0

abbrev pub system_word : List ℕ → ℕ → ℕ
system_word ws i = get_or ws (53 + i) 0

-- what is read: the value where its words fit, else none
abbrev pub SomeIf : {A : Type 0} → Bool → A → Option A → Type 0
SomeIf fits a r = MatchOption r (fits ≡ false) (λ b. (fits ≡ true) × (b ≡ a))

-- the field of a PID has 16 bits
abbrev pub pid_fits : ℕ → Bool
pid_fits n = leb n 65535

-- kind 0 is a main stream, kind 1 a video stream
unfoldable pub slot_fits : List ℕ → ℕ → Bool
slot_fits ws i = pid_fits (slot_word ws i 0) && leb (slot_word ws i 2) 1

unfoldable pub slots_fit : List ℕ → ℕ → Bool
slots_fit ws n = list_all (slot_fits ws) (range_with_len 0 n)

unfoldable pub system_fits : List ℕ → ℕ → Bool
system_fits ws m = list_all (λ (i : ℕ). pid_fits (system_word ws i)) (range_with_len 0 m)

unfoldable pub profile_fits : List ℕ → Bool
profile_fits ws =
    eqb (length ws) profile_len
    && leb (get_or ws 1 0) max_streams
    && leb (get_or ws 2 0) max_system_pids
    && pid_fits (get_or ws 0 0)
    && slots_fit ws (get_or ws 1 0)
    && system_fits ws (get_or ws 2 0)

-- a main stream has its buffer size, and two words that do not enter
unfoldable pub branch_of : (kind a b c : ℕ) → TStdBranch
branch_of kind a b c = cond (eqb kind 0) (Main a) (Video a b c)

unfoldable pub stream_at : List ℕ → ℕ → TStdStream
stream_at ws i =
    record {
      pid = slot_word ws i 0;
      model = record { rx_bps = slot_word ws i 1; branch = branch_of (slot_word ws i 2) (slot_word ws i 3) (slot_word ws i 4) (slot_word ws i 5) };
    }

unfoldable pub slot_streams : List ℕ → ℕ → List TStdStream
slot_streams ws n = map (stream_at ws) (range_with_len 0 n) ++ replicate (max_streams - n) unused_stream

unfoldable pub slot_pids : List ℕ → ℕ → List ℕ
slot_pids ws m = map (system_word ws) (range_with_len 0 m) ++ replicate (max_system_pids - m) 0

unfoldable pub config_at : List ℕ → TStdConfig
config_at ws =
    config
    (get_or ws 0 0)
    (slot_streams ws (get_or ws 1 0))
    (get_or ws 1 0)
    (slot_pids ws (get_or ws 2 0))
    (get_or ws 2 0)
    (get_or ws 3 0)
    (get_or ws 4 0)

-- the configuration, or the refusal of a profile that does not fit
unfoldable pub config_of : List ℕ → Result TStdConfig Refusal
config_of ws = cond (profile_fits ws) (Ok (config_at ws)) (Err Refusal.OutsideLimits)
