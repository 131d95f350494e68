-- The answers of the boundary in the order of document 01. Assumes nothing.
use Prim.Native.Nat.{ℕ}
use mathlib.Core.Path.{◌≡◌, refl, ◌∙◌}
use mathlib.Core.Bool.{Bool, true, false, ◌&&◌}
use mathlib.Core.List.{List}
use lib.ListN.{length}
use lib.Dec.{eqb}
use Rattle.std.specs.Prelude.{Result, Err}
use Rattle.error.specs.declared.Refusal.{Refusal}
use Rattle.packet.specs.Layout.{layout_of}
use Rattle.recording.specs.Read.{read_of}
use Rattle.profile.specs.declared.config.TStdConfig.{TStdConfig}
use Rattle.profile.specs.declared.work.WorkSize.{WorkSize}
use Rattle.profile.specs.Limits.{replay_limits, within_limits}
use Rattle.profile.specs.Work.{needed_of, covers, check_of}
use Rattle.words.specs.Config.{profile_fits, config_at}
use Rattle.words.specs.Report.{report_len}
use Rattle.model.specs.Replay.{Outcome, refused_with, streams_read, with_check, replay}
use Rattle.model.proofs.Refusals.{read_size}
use Rattle.tstd.specs.Core.{outcome_of}
use Rattle.exports.specs.Exports.{call_outcome, check_with}

and_false : (b : Bool) → (b && false) ≡ false
and_false true = refl
and_false false = refl

and_true : (b : Bool) → (b && true) ≡ b
and_true true = refl
and_true false = refl

module _ (l ws : List ℕ) (times places row report : ℕ) where
  -- number 1, whatever the report's length
  pub no_profile : profile_fits ws ≡ false → call_outcome l ws times places row report ≡ refused_with Refusal.OutsideLimits
  unfolding call_outcome
  no_profile e = rw e

  pub outside : within_limits replay_limits (config_at ws) ≡ false → call_outcome l ws times places row report ≡ refused_with Refusal.OutsideLimits
  unfolding call_outcome
  outside e = rw (e, and_false (profile_fits ws))

  module _ (fits : profile_fits ws ≡ true) (within : within_limits replay_limits (config_at ws) ≡ true) where
    -- number 2, whatever else is lent and however long the recording is
    pub other_report : eqb report report_len ≡ false → call_outcome l ws times places row report ≡ refused_with Refusal.WorkTooShort
    unfolding call_outcome
    other_report e = rw (fits, within, e)

    pub replays : eqb report report_len ≡ true → call_outcome l ws times places row report ≡ outcome_of l (config_at ws) times places row
    unfolding call_outcome
    replays e = rw (fits, within, e)

module _ (c : TStdConfig) (lent : WorkSize) (report recording : ℕ) where
  -- with a report of the right length these are the replay's own tests
  check_same : eqb report report_len ≡ true → check_with c lent report recording ≡ check_of replay_limits c lent recording
  unfolding check_with check_of
  check_same e = rw (e, and_true (covers lent (needed_of c)))

  check_report : within_limits replay_limits c ≡ true → eqb report report_len ≡ false → check_with c lent report recording ≡ Err Refusal.WorkTooShort
  unfolding check_with
  check_report w e = rw (w, e, and_false (covers lent (needed_of c)))

  check_outside : within_limits replay_limits c ≡ false → check_with c lent report recording ≡ Err Refusal.OutsideLimits
  unfolding check_with
  check_outside w = rw w

module _ (l ws : List ℕ) (times places row report : ℕ) where
  abbrev lent : WorkSize
  lent = record { times = times; places = places; row = row }

  abbrev checked : Result WorkSize Refusal
  checked = check_with (config_at ws) lent report (length l)

  abbrev checked_outcome : Outcome
  checked_outcome = with_check (config_at ws) (read_of (streams_read (config_at ws)) l) checked

  by_length : (b : Bool) → eqb report report_len ≡ b → profile_fits ws ≡ true → within_limits replay_limits (config_at ws) ≡ true → call_outcome l ws times places row report ≡ checked_outcome
  unfolding with_check replay
  by_length false e f w = other_report l ws times places row report f w e ∙ rw (check_report (config_at ws) lent report (length l) w e)
  by_length true e f w =
      replays l ws times places row report f w e
      ∙ rw (check_same (config_at ws) lent report (length l) e, read_size (streams_read (config_at ws)) l (layout_of l))

  by_limits : (b : Bool) → within_limits replay_limits (config_at ws) ≡ b → profile_fits ws ≡ true → call_outcome l ws times places row report ≡ checked_outcome
  unfolding with_check
  by_limits true w f = by_length (eqb report report_len) refl f w
  by_limits false w f = outside l ws times places row report w ∙ rw (check_outside (config_at ws) lent report (length l) w)

  -- the report's length is one of the tests for number 2: behind those for number 1, before that for number 3
  pub in_order : profile_fits ws ≡ true → call_outcome l ws times places row report ≡ checked_outcome
  in_order f = by_limits (within_limits replay_limits (config_at ws)) refl f
