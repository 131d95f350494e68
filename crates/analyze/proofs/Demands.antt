-- What holds of every answer of `analyze_tstd`, whatever the recording, the profile and what is lent: demands 1 and 3. Assumes nothing.
use Rattle.std.specs.Prelude.{Result, Ok, Err}
use Rattle.std.specs.Prelude.{ℕ, ◌≤◌, ◌≡◌, refl, ◌↔◌, ◌⊎◌, List, ◌++◌, length, drop}
use Rattle.std.proofs.Common.{sym, ◌∙◌, subst, inl, inr, arith}
use Rattle.std.proofs.Math.Path.{ap}
use Rattle.std.proofs.Math.Seq.{take-append_seam, drop-append_seam}
use Rattle.error.specs.declared.Refusal.{Refusal}
use Rattle.error.specs.Code.{code_of, code_told, code_numbered}
use Rattle.error.proofs.Distinct.{refused_number, code_refused_iff}
use Rattle.recording.specs.Content.{OnlyContent}
use Rattle.recording.specs.Read.{read_of}
use Rattle.report.specs.declared.TStdReport.{TStdReport}
use Rattle.report.specs.declared.TStdChainStats.{TStdChainStats}
use Rattle.profile.specs.declared.config.TStdConfig.{TStdConfig}
use Rattle.profile.specs.declared.work.WorkSize.{WorkSize}
use Rattle.profile.specs.Limits.{replay_limits}
use Rattle.model.specs.Replay.{Outcome, accepted, refused_with, replay, streams_read}
use Rattle.demands.specs.Refused.{Completed, RefusedBy}
use Rattle.demands.proofs.Refused as laws
use Rattle.tstd.specs.Demands as tstd
use Rattle.analyze.specs.Analyze.{Lent, outcome_for, result_for, report_for, row_for, Analyzed}
use Rattle.analyze.specs.Answers.{room_of, chain_count, chains_in, surplus_in, Accepted, Refused, SameAnswer, SameCode}
use Rattle.analyze.specs.Chains.{one_per_chain}

-- ---- numbers
-- told number 0 exactly where nothing is refused
pub told_ok_iff : (told : Result Unit Refusal) → ((code_told told).number ≡ 0) ↔ (told ≡ Ok tt)
told_ok_iff (Ok tt) = (λ z. refl, λ e. refl)
told_ok_iff (Err x) = (λ z. absurd (omega (arith, z, refused_number x)), λ e. absurd cc)

-- ---- one answer
module _ (l : List ℕ) (c : TStdConfig) (lent left : Lent) (told : Result Unit Refusal) (is : Analyzed l c lent left told) where
  -- by a refusal of the definition
  module _ (x : Refusal) (e : outcome_for l c lent ≡ refused_with x) where
    told_refused : told ≡ Err x
    unfolding result_for
    told_refused = is.answer ∙ ap result_for e

    by_refused : Refused l c lent left told
    unfolding report_for row_for
    by_refused =
        record {
          refusal = x;
          err = told_refused;
          condition = (tstd.refused_iff replay_limits c (room_of lent) l x).0 e;
          report_kept = is.report ∙ ap (λ (o : Outcome). report_for o lent.report) e;
          row_kept = is.row ∙ ap (λ (o : Outcome). row_for o lent.row) e;
        }

  -- by an accepted outcome of the definition
  module _ (r : TStdReport) (fs : List TStdChainStats) (e : outcome_for l c lent ≡ accepted r fs) where
    told_accepted : told ≡ Ok tt
    unfolding result_for
    told_accepted = is.answer ∙ ap result_for e

    report_is : left.report ≡ r
    unfolding report_for
    report_is = is.report ∙ ap (λ (o : Outcome). report_for o lent.report) e

    row_is : left.row ≡ fs ++ drop (length fs) lent.row
    unfolding row_for
    row_is = is.row ∙ ap (λ (o : Outcome). row_for o lent.row) e

    count : length fs ≡ chain_count c
    count = (one_per_chain replay_limits c (room_of lent) l r fs e).count

    chains_are : chains_in c left ≡ fs
    chains_are = rw (sym count, row_is) (take-append_seam fs (drop (length fs) lent.row))

    surplus_is : surplus_in c left ≡ surplus_in c lent
    surplus_is = rw (sym count, row_is) (drop-append_seam fs (drop (length fs) lent.row))

    by_accepted : Accepted l c lent left told
    by_accepted =
        record {
          ok = told_accepted;
          completed = (tstd.record_accepts c (room_of lent) l r fs e).completed;
          finite = rw (report_is, chains_are) (tstd.accepted_finite c (room_of lent) l r fs e);
          bounded = rw (report_is, chains_are) (tstd.accepted_bounds c (room_of lent) l r fs e);
          recorded = rw report_is (tstd.record_accepts c (room_of lent) l r fs e);
          keys = rw report_is (tstd.keys_51 c (room_of lent) l r fs e);
          conformant = rw report_is (tstd.conformant_iff c (room_of lent) l r fs e);
          surplus = surplus_is;
        }

  by_outcome : (o : Outcome) → outcome_for l c lent ≡ o → Accepted l c lent left told ⊎ Refused l c lent left told
  by_outcome (accepted r fs) e = inl (by_accepted r fs e)
  by_outcome (refused_with x) e = inr (by_refused x e)

  -- demand 1: a finished report without an infinite or not-a-number figure, or one of the ten refusals
  pub finished : Accepted l c lent left told ⊎ Refused l c lent left told
  finished = by_outcome (outcome_for l c lent) refl

  completed_by : told ≡ Ok tt → Accepted l c lent left told ⊎ Refused l c lent left told → Completed replay_limits c (room_of lent) l
  completed_by z (inl a) = a.completed
  completed_by z (inr b) = let e = b.err in absurd cc

  -- Ok comes exactly where all packets and ends run
  pub accepted_iff : (told ≡ Ok tt) ↔ Completed replay_limits c (room_of lent) l
  accepted_iff = (
    λ z. completed_by z finished,
    λ h. told_accepted _ _ ((laws.accepted_iff replay_limits c (room_of lent) l _ _).1 (h, refl)),
  )

  condition_by : (x : Refusal) → told ≡ Err x → Accepted l c lent left told ⊎ Refused l c lent left told → RefusedBy replay_limits c (room_of lent) l x
  condition_by x e (inl a) = let o = a.ok in absurd cc
  condition_by x e (inr b) = let y = b.err in let same : b.refusal ≡ x = cc in subst (RefusedBy replay_limits c (room_of lent) l) same b.condition

  -- each of the ten refusals, with its place and PID, comes exactly under its condition
  pub refused_iff : (x : Refusal) → (told ≡ Err x) ↔ RefusedBy replay_limits c (room_of lent) l x
  refused_iff x = (λ e. condition_by x e finished, λ h. told_refused x ((tstd.refused_iff replay_limits c (room_of lent) l x).1 h))

  -- number 0 comes exactly where all packets and ends run
  pub number_zero_iff : ((code_told told).number ≡ 0) ↔ Completed replay_limits c (room_of lent) l
  number_zero_iff = (λ z. accepted_iff.0 ((told_ok_iff told).0 z), λ h. (told_ok_iff told).1 (accepted_iff.1 h))

  -- each number but 0, with its place and PID, comes exactly under its refusal's condition
  pub number_refused_iff : (x : Refusal) → (code_told told ≡ code_of x) ↔ RefusedBy replay_limits c (room_of lent) l x
  number_refused_iff x = (λ e. (refused_iff x).0 ((code_refused_iff told x).0 e), λ h. (code_refused_iff told x).1 ((refused_iff x).1 h))

  -- what is told of an answer that is accepted, and of one that is refused
  pub accepted_code : Accepted l c lent left told → code_told told ≡ code_numbered 0
  accepted_code a = ap code_told a.ok

  pub refused_code : (r : Refused l c lent left told) → code_told told ≡ code_of r.refusal
  refused_code r = ap code_told r.err

-- ---- the answers to two recordings, with one profile and one length of each part of work and row, whatever these and the report held before
module _ (c : TStdConfig) (a b : List ℕ) (lent lent' left left' : Lent) (told told' : Result Unit Refusal) (is : Analyzed a c lent left told) (is' : Analyzed b c lent' left' told') (room : room_of lent ≡ room_of lent') where
  by_one : (o : Outcome) → outcome_for a c lent ≡ o → outcome_for b c lent' ≡ o → SameAnswer c told told' left left'
  by_one (accepted r fs) e e' =
      record {
        one_outcome = told_accepted a c lent left told is r fs e ∙ sym (told_accepted b c lent' left' told' is' r fs e');
        one_report = λ z. report_is a c lent left told is r fs e ∙ sym (report_is b c lent' left' told' is' r fs e');
        one_row = λ z. chains_are a c lent left told is r fs e ∙ sym (chains_are b c lent' left' told' is' r fs e');
      }
  by_one (refused_with x) e e' =
      let err = told_refused a c lent left told is x e in
      let never : told ≡ Ok tt → ⊥ = λ z. cc in
      record { one_outcome = err ∙ sym (told_refused b c lent' left' told' is' x e'); one_report = λ z. absurd (never z); one_row = λ z. absurd (never z) }

  -- demand 3: recordings that differ only in content get the same answer
  pub blind : OnlyContent (streams_read c) a b → SameAnswer c told told' left left'
  blind only =
      by_one (outcome_for b c lent')
      (tstd.blind replay_limits c (room_of lent) a b only ∙ ap (λ (w : WorkSize). replay replay_limits c w (read_of (streams_read c) b)) room) refl

  -- of these conditions the recording enters the third alone, by its length
  alike : length a ≡ length b → (x : Refusal) → (code_of x).number ≤ 3 → RefusedBy replay_limits c (room_of lent) a x → RefusedBy replay_limits c (room_of lent) b x
  alike n Refusal.OutsideLimits k h = h
  alike n Refusal.WorkTooShort k h = h
  alike n Refusal.RecordingTooLong k h = record { within = h.within; covered = h.covered; long = rw (sym n) h.long }
  alike n Refusal.NoPacketLayout k h = absurd (omega (arith, k))
  alike n Refusal.TooFewPcrs k h = absurd (omega (arith, k))
  alike n (Refusal.DiscontinuityBeforeRate m) k h = absurd (omega (arith, k))
  alike n (Refusal.RepeatedPcr m) k h = absurd (omega (arith, k))
  alike n (Refusal.ClockFull m) k h = absurd (omega (arith, k))
  alike n (Refusal.RateOutsideLimits m) k h = absurd (omega (arith, k))
  alike n (Refusal.QueueFull m pid) k h = absurd (omega (arith, k))

  -- numbers 1 to 3 come alike whatever two recordings of one length hold
  pub one_to_three : length a ≡ length b → (x : Refusal) → (code_of x).number ≤ 3 → told ≡ Err x → told ≡ told'
  one_to_three n x few e =
      let condition = (refused_iff a c lent left told is x).0 e in
      e ∙ sym ((refused_iff b c lent' left' told' is' x).1 (rw (sym room) (alike n x few condition)))

  -- answers that are the same are told alike
  pub same_code : SameAnswer c told told' left left' → SameCode c told told' left left'
  same_code same =
      record {
        one_code = ap code_told same.one_outcome;
        one_report = λ z. same.one_report ((told_ok_iff told).0 z);
        one_row = λ z. same.one_row ((told_ok_iff told).0 z);
      }

  -- demand 3 by what is told: recordings that differ only in content get one number, place and PID
  pub blind_code : OnlyContent (streams_read c) a b → SameCode c told told' left left'
  blind_code only = same_code (blind only)

  three_by : length a ≡ length b → (t : Result Unit Refusal) → told ≡ t → 1 ≤ (code_told t).number → (code_told t).number ≤ 3 → told ≡ told'
  three_by n (Ok tt) e some few = absurd (omega (arith, some))
  three_by n (Err x) e some few = one_to_three n x few e

  -- the same of the numbers told
  pub number_one_to_three : length a ≡ length b → 1 ≤ (code_told told).number → (code_told told).number ≤ 3 → code_told told ≡ code_told told'
  number_one_to_three n some few = ap code_told (three_by n told refl some few)
