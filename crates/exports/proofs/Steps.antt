-- What the boundary's own steps come to: a profile that was read, or its refusal, and a replay. Assumes nothing.
use Prim.Native.Nat.{ℕ}
use mathlib.Core.Path.{◌≡◌, refl, sym, ap, ◌∙◌}
use mathlib.Core.Bool.{Bool, true, false, cond, ◌&&◌}
use mathlib.Core.List.{List}
use lib.Dec.{eqb}
use lib.ListN.{length}
use lib.Ieee.{Float}
use Rattle.error.specs.declared.Refusal.{Refusal}
use Rattle.report.specs.Report.{empty_report}
use Rattle.std.specs.Prelude.{Ok, Err}
use Rattle.profile.specs.declared.config.TStdConfig.{TStdConfig}
use Rattle.profile.specs.Limits.{replay_limits, within_limits}
use Rattle.answer.specs.declared.Answer.{Answer}
use Rattle.answer.specs.Answer.{refused_answer}
use Rattle.words.specs.Report.{report_len}
use Rattle.words.specs.Config.{profile_fits, config_at}
use Rattle.model.specs.Replay.{Outcome, refused_with}
use Rattle.tstd.specs.Core.{answer_for, keeps_work, outcome_of, Replayed}
use Rattle.exports.specs.Exports.{profile_for, call_outcome, Answered}

-- what the profile that was read, or its refusal, says of the call
module _ (l ws : List ℕ) (times places row report : ℕ) where
  abbrev called : Outcome
  called = outcome_of l (config_at ws) times places row

  pub profile_read : {c : TStdConfig} → profile_for ws report ≡ Ok c → (c ≡ config_at ws) × (call_outcome l ws times places row report ≡ called)
  unfolding profile_for call_outcome
  profile_read {c} e = go (profile_fits ws && within_limits replay_limits (config_at ws)) (eqb report report_len) e
    where
      go : (a b : Bool) → cond a (cond b (Ok (config_at ws)) (Err Refusal.WorkTooShort)) (Err Refusal.OutsideLimits) ≡ Ok c
          → (c ≡ config_at ws) × (cond a (cond b called (refused_with Refusal.WorkTooShort)) (refused_with Refusal.OutsideLimits) ≡ called)
      go true true e = (cc, refl)
      go true false e = cc
      go false b e = cc

  -- either refusal leaves the work as it was
  pub profile_refused : {x : Refusal} → profile_for ws report ≡ Err x → (call_outcome l ws times places row report ≡ refused_with x) × (keeps_work (refused_with x) ≡ true)
  unfolding profile_for call_outcome keeps_work
  profile_refused {x} e = go (profile_fits ws && within_limits replay_limits (config_at ws)) (eqb report report_len) e
    where
      keeps : (y : Refusal) → keeps_work (refused_with y) ≡ true → y ≡ x → (refused_with y ≡ refused_with x) × (keeps_work (refused_with x) ≡ true)
      keeps y k s = (ap refused_with s, ap (λ (z : Refusal). keeps_work (refused_with z)) (sym s) ∙ k)

      go : (a b : Bool) → cond a (cond b (Ok (config_at ws)) (Err Refusal.WorkTooShort)) (Err Refusal.OutsideLimits) ≡ Err x
          → (cond a (cond b called (refused_with Refusal.WorkTooShort)) (refused_with Refusal.OutsideLimits) ≡ refused_with x) × (keeps_work (refused_with x) ≡ true)
      go true true e = cc
      go true false e = keeps Refusal.WorkTooShort refl (cc)
      go false b e = keeps Refusal.OutsideLimits refl (cc)

module _ (l ws : List ℕ) (times : List Float) (places : List ℕ) (row report : ℕ) where
  abbrev outcome : Outcome
  outcome = call_outcome l ws (length times) (length places) row report

  -- numbers 1 to 4 keep the work
  pub refuses : (x : Refusal) → keeps_work (refused_with x) ≡ true → outcome ≡ refused_with x → (a : Answer) → a ≡ refused_answer empty_report x → Answered l ws times places row report a times places
  unfolding answer_for
  refuses x k e a h = record { outcome = h ∙ rw e; times_are = rw (e, k); places_are = rw (e, k) }

  pub answers : outcome ≡ outcome_of l (config_at ws) (length times) (length places) row → (a : Answer) (times' : List Float) (places' : List ℕ)
      → Replayed l (config_at ws) times places row empty_report a times' places' → Answered l ws times places row report a times' places'
  answers e a times' places' r =
      record { outcome = r.outcome ∙ rw e; times_are = r.times_are ∙ rw e; places_are = r.places_are ∙ rw e }
