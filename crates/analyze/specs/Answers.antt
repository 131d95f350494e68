-- What is asked of an answer of `analyze_tstd`: accepted or refused, and when the answers to two recordings are the same.
use Rattle.std.specs.Prelude.{Result, Ok, Err}
use Rattle.std.specs.Prelude.{ℕ, ◌≡◌, List, length, take, drop}
use Rattle.error.specs.declared.Refusal.{Refusal}
use Rattle.error.specs.Code.{code_told}
use Rattle.report.specs.declared.TStdChainStats.{TStdChainStats}
use Rattle.profile.specs.declared.config.TStdConfig.{TStdConfig}
use Rattle.profile.specs.declared.work.WorkSize.{WorkSize}
use Rattle.profile.specs.Config.{streams_of}
use Rattle.profile.specs.Limits.{replay_limits}
use Rattle.profile.specs.Work.{row_len}
use Rattle.demands.specs.Refused.{Completed, RefusedBy}
use Rattle.demands.specs.Accepted.{AnswerFinite, AnswerBounded, RecordAccepts, Keys51, ConformantIff}
use Rattle.analyze.specs.Analyze.{Lent}

-- the lengths that are lent
abbrev pub room_of : Lent → WorkSize
room_of lent = record { times = length lent.times; places = length lent.places; row = length lent.row }

-- one chain per stream, one more where there are system PIDs
abbrev pub chain_count : TStdConfig → ℕ
chain_count c = row_len (length (streams_of c)) c.system_count

-- the row's first records, one per chain, and those behind them
abbrev pub chains_in : TStdConfig → Lent → List TStdChainStats
chains_in c x = take (chain_count c) x.row

abbrev pub surplus_in : TStdConfig → Lent → List TStdChainStats
surplus_in c x = drop (chain_count c) x.row

-- accepted: all packets and ends ran; every figure of the report and of the chains is finite and within bounds; the row keeps its surplus
pub record Accepted (l : List ℕ) (c : TStdConfig) (lent left : Lent) (told : Result Unit Refusal) : Type 0 where
  pub ok : told ≡ Ok tt
  pub completed : Completed replay_limits c (room_of lent) l
  pub finite : AnswerFinite left.report (chains_in c left)
  pub bounded : AnswerBounded left.report (chains_in c left)
  pub recorded : RecordAccepts replay_limits c (room_of lent) l left.report
  pub keys : Keys51 replay_limits c (room_of lent) l left.report
  pub conformant : ConformantIff left.report
  pub surplus : surplus_in c left ≡ surplus_in c lent

-- one of the ten refusals, under its condition; report and row are as they were
pub record Refused (l : List ℕ) (c : TStdConfig) (lent left : Lent) (told : Result Unit Refusal) : Type 0 where
  pub refusal : Refusal
  pub err : told ≡ Err refusal
  pub condition : RefusedBy replay_limits c (room_of lent) l refusal
  pub report_kept : left.report ≡ lent.report
  pub row_kept : left.row ≡ lent.row

-- both accepted, or one refusal; where the recordings are accepted also the whole report and the row's first records
pub record SameAnswer (c : TStdConfig) (told told' : Result Unit Refusal) (left left' : Lent) : Type 0 where
  pub one_outcome : told ≡ told'
  pub one_report : told ≡ Ok tt → left.report ≡ left'.report
  pub one_row : told ≡ Ok tt → chains_in c left ≡ chains_in c left'

-- the same by what is told: one number, place and PID; where the number is 0 also the whole report and the row's first records
pub record SameCode (c : TStdConfig) (told told' : Result Unit Refusal) (left left' : Lent) : Type 0 where
  pub one_code : code_told told ≡ code_told told'
  pub one_report : (code_told told).number ≡ 0 → left.report ≡ left'.report
  pub one_row : (code_told told).number ≡ 0 → chains_in c left ≡ chains_in c left'
