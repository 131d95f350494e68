-- Calls on two recordings that differ only in content answer alike. Assumes nothing.
use Prim.Native.Nat.{ℕ}
use mathlib.Core.Path.{◌≡◌, sym, ◌∙◌}
use mathlib.Core.List.{List}
use lib.ListN.{length}
use lib.Ieee.{Float}
use Rattle.recording.specs.Content.{OnlyContent}
use Rattle.recording.proofs.OnlyContent.{reads_alike}
use Rattle.words.specs.Config.{config_at}
use Rattle.model.specs.Replay.{streams_read}
use Rattle.exports.specs.Exports.{call_outcome, outcome_in, Exported}

module _ (ws a b : List ℕ) (only : OnlyContent (streams_read (config_at ws)) a b) where
  pub same_outcome : (times places row report : ℕ) → call_outcome a ws times places row report ≡ call_outcome b ws times places row report
  unfolding call_outcome
  same_outcome times places row report = rw (reads_alike (streams_read (config_at ws)) a b only)

  -- the word, the row and the report, whatever the work held
  pub same_call : (row report : List ℕ) (times-a times-b : List Float) (places-a places-b : List ℕ) → length times-a ≡ length times-b → length places-a ≡ length places-b
      → {word-a word-b : ℕ} {ta tb : List Float} {pa pb row-a row-b report-a report-b : List ℕ} → Exported a ws times-a places-a row report word-a ta pa row-a report-a
      → Exported b ws times-b places-b row report word-b tb pb row-b report-b → (word-a ≡ word-b) × (row-a ≡ row-b) × (report-a ≡ report-b)
  same_call row report times-a times-b places-a places-b et ep x y =
      let e : outcome_in a ws times-a places-a row report ≡ outcome_in b ws times-b places-b row report = rw (et, ep) (same_outcome _ _ _ _) in
      let t = rw e at x.told in
      (t.word ∙ sym y.told.word, t.row ∙ sym y.told.row, t.report ∙ sym y.told.report)
