-- Violations of one slot, and of two slots that share a key, merge as their figures do: by the larger.
use mathlib.Core.Path.{◌≡◌, refl, sym, ap}
use mathlib.Core.Bool.{Bool, true, false, cond, ◌||◌}
use Prim.Native.Nat.{ℕ, ◌-◌, ◌/◌, ◌%◌, ◌<◌}
use native.Mathlib.Omega.{arith}
use lib.ListN.{get_or}
use lib.Dec.{ltb, eqb}
use lib.Ieee.{Float}
use borrow.Author.Tests.{eq-eqb}
use Rattle.ieee.specs.MaxMin.{max_num}
use Rattle.ieee.proofs.Truncation.{truncation_max}
use Rattle.ieee.proofs.MaxAssociative.{max_holds}
use Rattle.report.specs.declared.violation.Figure.{Figure}
use Rattle.report.specs.declared.violation.Figure.TheVariants.{Bytes, Seconds}
use Rattle.report.specs.declared.violation.TStdViolation.{TStdViolation}
use Rattle.report.specs.declared.violation.TStdViolation.TheVariants.{TbOverflow, TbBusyOverOneSecond, MbBusyOverOneSecond, DelayOverOneSecond, BsysOverflow}
use Rattle.report.specs.Violation.{fields_of, key_of, same_key, worse, with_figure, merge_of, FigureHas}
use Rattle.report.proofs.Commute.{kind_eq}
use Rattle.report.proofs.Keys.{same_key_eq, same_key_refl}
use Rattle.profile.specs.declared.model.TStdBranch.{TStdBranch}
use Rattle.profile.specs.declared.model.TStdBranch.TheVariants.{Main, Video}
use Rattle.profile.specs.declared.config.TStdStream.{TStdStream}
use Rattle.profile.specs.declared.config.TStdConfig.{TStdConfig}
use Rattle.profile.specs.Config.{unused_stream}
use Rattle.events.specs.declared.Event.{Event}
use Rattle.events.specs.declared.Event.TheVariants.{Overflow, Underflow, Delay, TbOverflow as TbOverflowEvent, TbBusy, MbBusy}
use Rattle.events.specs.Event.{kind_of, figure_of, decode_of, event_of}
use Rattle.summary.specs.Violation.{whole_bytes, overflow_in, underflow_in, chain_violation, stream_violation, system_violation, system_pid, violation_of, slot_of, slot_violation, AboveZero, SecondsAboveZero}

-- ---- what the violations of a slot have in common, whatever figure and decode time it has

-- the kinds whose figure is in seconds
abbrev in_seconds : ℕ → Bool
in_seconds kind = eqb kind 1 || (eqb kind 5 || eqb kind 7)

-- the figure as a violation of the kind has it
abbrev figure_as : ℕ → Float → Figure
figure_as kind x = cond (in_seconds kind) (Seconds x) (Bytes (whole_bytes x))

record Form (g : Float → Float → TStdViolation) : Type 0 where
  key : (x t y u : Float) → key_of (g x t) ≡ key_of (g y u)
  figure : (x t : Float) → (fields_of (g x t)).figure ≡ figure_as (fields_of (g x t)).kind x
  other : (x t y : Float) → with_figure (g x t) (figure_as (fields_of (g x t)).kind y) ≡ g y t

formed : (g : Float → Float → TStdViolation) →
    ((x t y u : Float) → key_of (g x t) ≡ key_of (g y u)) →
    ((x t : Float) → (fields_of (g x t)).figure ≡ figure_as (fields_of (g x t)).kind x) →
    ((x t y : Float) → with_figure (g x t) (figure_as (fields_of (g x t)).kind y) ≡ g y t) → Form g
formed g k f o = record { key = k; figure = f; other = o }

module _ (pid : ℕ) where
  overflow_form : (b : TStdBranch) → Form (λ x t. overflow_in b pid (whole_bytes x))
  unfolding overflow_in key_of fields_of with_figure
  overflow_form (Main size) = formed _ (λ x t y u. refl) (λ x t. refl) (λ x t y. refl)
  overflow_form (Video rbx mb eb) = formed _ (λ x t y u. refl) (λ x t. refl) (λ x t y. refl)

  underflow_form : (b : TStdBranch) → Form (λ x t. underflow_in b pid t (whole_bytes x))
  unfolding underflow_in key_of fields_of with_figure
  underflow_form (Main size) = formed _ (λ x t y u. refl) (λ x t. refl) (λ x t y. refl)
  underflow_form (Video rbx mb eb) = formed _ (λ x t y u. refl) (λ x t. refl) (λ x t y. refl)

  delay_form : Form (λ x t. DelayOverOneSecond pid t x)
  unfolding key_of fields_of with_figure
  delay_form = formed _ (λ x t y u. refl) (λ x t. refl) (λ x t y. refl)

  tb_overflow_form : Form (λ x t. TbOverflow pid (whole_bytes x))
  unfolding key_of fields_of with_figure
  tb_overflow_form = formed _ (λ x t y u. refl) (λ x t. refl) (λ x t y. refl)

  tb_busy_form : Form (λ x t. TbBusyOverOneSecond pid x)
  unfolding key_of fields_of with_figure
  tb_busy_form = formed _ (λ x t y u. refl) (λ x t. refl) (λ x t y. refl)

  mb_busy_form : Form (λ x t. MbBusyOverOneSecond pid x)
  unfolding key_of fields_of with_figure
  mb_busy_form = formed _ (λ x t y u. refl) (λ x t. refl) (λ x t y. refl)

bsys_form : Form (λ x t. BsysOverflow (whole_bytes x))
unfolding key_of fields_of with_figure
bsys_form = formed _ (λ x t y u. refl) (λ x t. refl) (λ x t y. refl)

-- what holds of each kind of event holds of the events of any slot
by_kind : (P : (Float → Float → Event) → Type 0) → P (λ x t. Overflow x) → P (λ x t. Underflow t x) → P (λ x t. Delay t x) → P (λ x t. TbOverflowEvent x) → P (λ x t. TbBusy x) → P (λ x t. MbBusy x) → (kind : ℕ) → P (event_of kind)
unfolding event_of
by_kind P p₀ p₁ p₂ p₃ p₄ p₅ kind = go (eqb kind 0) (eqb kind 1) (eqb kind 2) (eqb kind 3) (eqb kind 4)
  where
    go : (a b c d e : Bool) → P (λ x t. cond a (Overflow x) (cond b (Underflow t x) (cond c (Delay t x) (cond d (TbOverflowEvent x) (cond e (TbBusy x) (MbBusy x))))))
    go true b c d e = p₀
    go false true c d e = p₁
    go false false true d e = p₂
    go false false false true e = p₃
    go false false false false true = p₄
    go false false false false false = p₅

-- the six kinds, and an event back from its parts
pub kind_few : (e : Event) → kind_of e < 6
unfolding kind_of
kind_few (Overflow b) = omega arith
kind_few (Underflow t b) = omega arith
kind_few (Delay t d) = omega arith
kind_few (TbOverflowEvent b) = omega arith
kind_few (TbBusy d) = omega arith
kind_few (MbBusy d) = omega arith

event_back : (e : Event) → event_of (kind_of e) (figure_of e) (decode_of e) ≡ e
unfolding event_of kind_of figure_of decode_of
event_back (Overflow b) = refl
event_back (Underflow t b) = refl
event_back (Delay t d) = refl
event_back (TbOverflowEvent b) = refl
event_back (TbBusy d) = refl
event_back (MbBusy d) = refl

module _ (c : TStdConfig) where
  chain_form : (chain kind : ℕ) → Form (λ x t. violation_of c chain (event_of kind x t))
  unfolding violation_of chain_violation
  chain_form chain kind = by_chain (ltb chain 8)
    where
      by_chain : (b : Bool) → Form (λ x t. cond b (stream_violation (get_or c.streams chain unused_stream) (event_of kind x t)) (system_violation (system_pid c) (event_of kind x t)))
      by_chain true =
          let s = get_or c.streams chain unused_stream in
          by_kind (λ e. Form (λ x t. stream_violation s (e x t))) (overflow_form s.pid s.model.branch) (underflow_form s.pid s.model.branch) (delay_form s.pid) (tb_overflow_form s.pid) (tb_busy_form s.pid) (mb_busy_form s.pid) kind
      by_chain false =
          by_kind (λ e. Form (λ x t. system_violation (system_pid c) (e x t))) bsys_form bsys_form bsys_form (tb_overflow_form (system_pid c)) (tb_busy_form (system_pid c)) bsys_form kind

  slot_form : (k : ℕ) → Form (slot_violation c k)
  unfolding slot_violation
  slot_form k = chain_form ((k - 1) / 6) ((k - 1) % 6)

  -- the key goes by the slot alone
  pub slot_key : (k : ℕ) (x t y u : Float) → key_of (slot_violation c k x t) ≡ key_of (slot_violation c k y u)
  slot_key k x t y u = (slot_form k).key x t y u

  figure_max : (kind : ℕ) (x y : Float) → worse (figure_as kind x) (figure_as kind y) ≡ figure_as kind (max_num x y)
  unfolding worse
  figure_max kind x y = go (in_seconds kind)
    where
      go : (b : Bool) → worse (cond b (Seconds x) (Bytes (whole_bytes x))) (cond b (Seconds y) (Bytes (whole_bytes y))) ≡ cond b (Seconds (max_num x y)) (Bytes (whole_bytes (max_num x y)))
      go true = refl
      go false = ap Bytes (sym (truncation_max 64 x y))

  -- slots that share a key merge alike: the larger figure, and all else of the first
  pub shared_key_merges : (k l : ℕ) (x t y u : Float) → same_key (key_of (slot_violation c k x t)) (key_of (slot_violation c l y u)) ≡ true → merge_of (slot_violation c k x t) (slot_violation c l y u) ≡ slot_violation c k (max_num x y) t
  unfolding merge_of
  shared_key_merges k l x t y u h =
      let a = slot_violation c k x t in
      let b = slot_violation c l y u in
      let kinds : (fields_of a).kind ≡ (fields_of b).kind = kind_eq a b (same_key_eq (key_of a) (key_of b) h) in
      rw (eq-eqb (fields_of a).kind (fields_of b).kind kinds, (slot_form k).figure x t, (slot_form l).figure y u, ← kinds, figure_max (fields_of a).kind x y)
      ((slot_form k).other x t (max_num x y))

  pub same_slot_merges : (k : ℕ) (x t y u : Float) → merge_of (slot_violation c k x t) (slot_violation c k y u) ≡ slot_violation c k (max_num x y) t
  same_slot_merges k x t y u =
      shared_key_merges k k x t y u (rw (slot_key k x t y u) (same_key_refl (key_of (slot_violation c k y u))))

  -- ---- an event and its slot

  pub slot_event : (chain : ℕ) (e : Event) → slot_violation c (slot_of chain e) (figure_of e) (decode_of e) ≡ violation_of c chain e
  unfolding slot_violation
  slot_event chain e =
      let i : (slot_of chain e - 1) / 6 ≡ chain = omega (arith, kind_few e) in
      let k : (slot_of chain e - 1) % 6 ≡ kind_of e = omega (arith, kind_few e) in
      rw (i, k, event_back e)

-- ---- violations whose figure, where it is in seconds, is above zero

abbrev pub AboveZeroIn : TStdViolation → Type 0
AboveZeroIn v = FigureHas (λ (n : ℕ). Unit) AboveZero (fields_of v).figure

overflow_above : (b : TStdBranch) (pid n : ℕ) → AboveZeroIn (overflow_in b pid n)
unfolding overflow_in fields_of
overflow_above (Main size) pid n = tt
overflow_above (Video rbx mb eb) pid n = tt

underflow_above : (b : TStdBranch) (pid : ℕ) (t : Float) (n : ℕ) → AboveZeroIn (underflow_in b pid t n)
unfolding underflow_in fields_of
underflow_above (Main size) pid t n = tt
underflow_above (Video rbx mb eb) pid t n = tt

stream_above : (s : TStdStream) (e : Event) → SecondsAboveZero e → AboveZeroIn (stream_violation s e)
unfolding chain_violation fields_of
stream_above s (Overflow b) p = overflow_above s.model.branch s.pid (whole_bytes b)
stream_above s (Underflow t b) p = underflow_above s.model.branch s.pid t (whole_bytes b)
stream_above s (Delay t d) p = p
stream_above s (TbOverflowEvent b) p = tt
stream_above s (TbBusy d) p = p
stream_above s (MbBusy d) p = p

system_above : (pid : ℕ) (e : Event) → SecondsAboveZero e → AboveZeroIn (system_violation pid e)
unfolding chain_violation fields_of
system_above pid (Overflow b) p = tt
system_above pid (Underflow t b) p = tt
system_above pid (Delay t d) p = tt
system_above pid (TbOverflowEvent b) p = tt
system_above pid (TbBusy d) p = p
system_above pid (MbBusy d) p = tt

module _ (c : TStdConfig) where
  pub above_merged : (k : ℕ) (x t y u : Float) → AboveZeroIn (slot_violation c k x t) → AboveZeroIn (slot_violation c k y u) → AboveZeroIn (slot_violation c k (max_num x y) t)
  above_merged k x t y u p q =
      rw ((slot_form c k).figure (max_num x y) t, kind_eq (slot_violation c k (max_num x y) t) (slot_violation c k x t) (slot_key c k (max_num x y) t x t))
      (by_sort (fields_of (slot_violation c k x t)).kind (rw ((slot_form c k).figure x t) at p) (rw ((slot_form c k).figure y u, kind_eq (slot_violation c k y u) (slot_violation c k x t) (slot_key c k y u x t)) at q))
    where
      by_sort : (kind : ℕ) → FigureHas (λ (n : ℕ). Unit) AboveZero (figure_as kind x) → FigureHas (λ (n : ℕ). Unit) AboveZero (figure_as kind y) → FigureHas (λ (n : ℕ). Unit) AboveZero (figure_as kind (max_num x y))
      by_sort kind = go (in_seconds kind)
        where
          go : (b : Bool) → FigureHas (λ (n : ℕ). Unit) AboveZero (cond b (Seconds x) (Bytes (whole_bytes x))) → FigureHas (λ (n : ℕ). Unit) AboveZero (cond b (Seconds y) (Bytes (whole_bytes y))) → FigureHas (λ (n : ℕ). Unit) AboveZero (cond b (Seconds (max_num x y)) (Bytes (whole_bytes (max_num x y))))
          go true p q = max_holds AboveZero x y p q
          go false p q = tt

  pub above_event : (chain : ℕ) (e : Event) → SecondsAboveZero e → AboveZeroIn (violation_of c chain e)
  unfolding violation_of
  above_event chain e p = by_chain (ltb chain 8)
    where
      by_chain : (b : Bool) → AboveZeroIn (cond b (stream_violation (get_or c.streams chain unused_stream) e) (system_violation (system_pid c) e))
      by_chain true = stream_above (get_or c.streams chain unused_stream) e p
      by_chain false = system_above (system_pid c) e p
