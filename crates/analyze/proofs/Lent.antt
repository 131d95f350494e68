-- From the core's answer to what the caller then holds: code, report and row by the outcome of the definition. Assumes nothing.
use Rattle.std.specs.Prelude.{Result, Ok, Err}
use Rattle.error.specs.declared.Refusal.{Refusal}
use Rattle.answer.specs.declared.Figures.{Figures}
use Prim.Native.Nat.{ℕ, ◌≤◌}
use mathlib.Core.Path.{◌≡◌, refl, sym, ap, ◌∙◌}
use mathlib.Core.List.{List, ◌++◌}
use lib.ListN.{length, drop}
use lib.Seq.{take-append_seam}
use lib.Ieee.{Float}
use Rattle.report.specs.declared.TStdReport.{TStdReport}
use Rattle.report.specs.declared.TStdChainStats.{TStdChainStats}
use Rattle.profile.specs.declared.config.TStdConfig.{TStdConfig}
use Rattle.profile.specs.Limits.{replay_limits}
use Rattle.answer.specs.declared.Answer.{Answer}
use Rattle.answer.specs.Answer.{figures_of, accepted_answer, refused_answer}
use Rattle.model.specs.Replay.{Outcome, accepted, refused_with}
use Rattle.tstd.specs.Core.{outcome_of, answer_for, Replayed}
use Rattle.analyze.specs.Analyze.{lending, result_for, report_for, row_for, written, Analyzed}
use Rattle.analyze.specs.Chains.{one_per_chain}

-- ---- the core's answer, by the outcome of the definition
report_for_lem : (before : TStdReport) (o : Outcome) → (answer_for before o).report ≡ report_for o before
unfolding answer_for report_for accepted_answer refused_answer
report_for_lem before (accepted r fs) = refl
report_for_lem before (refused_with x) = refl

-- where it has figures
pub record WithFigures (o : Outcome) (f : Figures) : Type 0 where
  pub result : Ok tt ≡ result_for o
  pub row : (row : List TStdChainStats) → written f row ≡ row_for o row

with_figures : (before : TStdReport) (o : Outcome) (f : Figures) → (answer_for before o).outcome ≡ Ok f → WithFigures o f
unfolding answer_for result_for row_for accepted_answer refused_answer figures_of written
with_figures before (accepted r fs) f e =
    let same : figures_of fs ≡ f = cc in
    record { result = refl; row = λ row. rw (sym same) (ap (λ (l : List TStdChainStats). l ++ drop (length fs) row) (take-append_seam fs _)) }
with_figures before (refused_with x) f e = absurd cc

-- where it has a refusal
pub record WithRefusal (o : Outcome) (x : Refusal) : Type 0 where
  pub result : Err x ≡ result_for o
  pub row : (row : List TStdChainStats) → row ≡ row_for o row

with_refusal : (before : TStdReport) (o : Outcome) (x : Refusal) → (answer_for before o).outcome ≡ Err x → WithRefusal o x
unfolding answer_for result_for row_for accepted_answer refused_answer
with_refusal before (accepted r fs) x e = absurd cc
with_refusal before (refused_with y) x e = record { result = cc; row = λ row. refl }

-- ---- the core's answer a, with a row of n records
module _ (l : List ℕ) (c : TStdConfig) (ts : List Float) (ps : List ℕ) (n : ℕ) (before : TStdReport) where
  count_by : (o : Outcome) (f : Figures) → outcome_of l c (length ts) (length ps) n ≡ o → (answer_for before o).outcome ≡ Ok f → (f.count ≤ 9) × (f.count ≤ n)
  unfolding answer_for accepted_answer refused_answer figures_of
  count_by (accepted r fs) f is e =
      let same : figures_of fs ≡ f = cc in
      let fit = one_per_chain replay_limits c (record { times = length ts; places = length ps; row = n }) l r fs is in rw (sym same) (fit.nine, fit.in_row)
  count_by (refused_with x) f is e = absurd cc

  -- what the writer of the row asks
  pub count_fits : (a : Answer) (ts' : List Float) (ps' : List ℕ) (f : Figures) → Replayed l c ts ps n before a ts' ps' → a.outcome ≡ Ok f → (f.count ≤ 9) × (f.count ≤ n)
  count_fits a ts' ps' f h e =
      count_by (outcome_of l c (length ts) (length ps) n) f refl (ap (λ (x : Answer). x.outcome) (sym h.outcome) ∙ e)

-- the report of the core's answer and the row that is written give what `analyze_tstd` ensures
module _ (l : List ℕ) (c : TStdConfig) (ts : List Float) (ps : List ℕ) (row : List TStdChainStats) (before : TStdReport) (a : Answer) (ts' : List Float) (ps' : List ℕ) (row' : List TStdChainStats) (h : Replayed l c ts ps (length row) before a ts' ps') where
  abbrev outcome : Outcome
  outcome = outcome_of l c (length ts) (length ps) (length row)

  told_by : (told : Result Unit Refusal) → told ≡ result_for outcome → row' ≡ row_for outcome row → Analyzed l c (lending ts ps row before) (lending ts' ps' row' a.report) told
  told_by told e r =
      record {
        answer = e;
        report = ap (λ (x : Answer). x.report) h.outcome ∙ report_for_lem before outcome;
        row = r;
        times = h.times_are;
        places = h.places_are;
      }

  pub analyzed : (f : Figures) → a.outcome ≡ Ok f → row' ≡ written f row → Analyzed l c (lending ts ps row before) (lending ts' ps' row' a.report) (Ok tt)
  analyzed f e r =
      let w = with_figures before outcome f (ap (λ (x : Answer). x.outcome) (sym h.outcome) ∙ e) in
      told_by (Ok tt) w.result (r ∙ w.row row)

  pub refused : (x : Refusal) → a.outcome ≡ Err x → row' ≡ row → Analyzed l c (lending ts ps row before) (lending ts' ps' row' a.report) (Err x)
  refused x e r =
      let w = with_refusal before outcome x (ap (λ (x : Answer). x.outcome) (sym h.outcome) ∙ e) in
      told_by (Err x) w.result (r ∙ w.row row)
