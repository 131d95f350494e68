-- The rows of the chains' figures: set one after the other, and the chains of the definition whose figures they are.
-- Assumes nothing.
use Rattle.std.proofs.Common.{◌≡◌, ℕ, zero, suc, ◌+◌, ◌-◌, ◌*◌, ◌<◌, ◌≤◌, List, [], ◌∷◌, ◌++◌, length, get_or, take, set, replicate, sym, refl, ap, ◌∙◌, append-nil, add-zero, zero-add, add-one, arith, length-append, length-take, length-take-le, get_or-take, take-suc, eq-eqb, ne_eqb}
use native.Mathlib.Nat.{min-le_left}
use lib.Seq.{set-append_seam, append_snoc}
use lib.Ieee.{Float}
use Rattle.report.specs.declared.TStdChainStats.{TStdChainStats}
use Rattle.report.specs.Report.{empty_stats}
use Rattle.answer.specs.declared.Figures.{Figures}
use Rattle.answer.specs.Answer.{figures_of}
use Rattle.profile.specs.declared.config.TStdConfig.{TStdConfig}
use Rattle.profile.specs.declared.config.TStdStream.{TStdStream}
use Rattle.profile.specs.Config.{streams_of, unused_stream}
use Rattle.model.specs.Chain.{new_chain, stats_of}
use Rattle.model.specs.Replay.{State, stream_stats, system_stats}
use Rattle.tstd.specs.declared.front.SystemChain.{SystemChain}
use Rattle.tstd.specs.declared.chain.Chain.{Chain}
use Rattle.tstd.specs.Chain.{unused_chain}
use Rattle.tstd.specs.InWork.{ChainIs}
use Rattle.tstd.specs.Figures.{stream_row, rows_from, system_row, system_rows}
use Rattle.tstd.proofs.ChainIs.{row_is}

-- ---- the array of rows

-- what an unused row holds
abbrev unused_row : TStdChainStats
unused_row = empty_stats 0

-- the array holds the rows fs, and behind them empty ones
pub record Holds (fs : List TStdChainStats) (rows : List TStdChainStats) : Type 0 where
  pub is : rows ≡ fs ++ replicate (9 - length fs) unused_row

pub holds_next : (fs rows : List TStdChainStats) (i : ℕ) (x : TStdChainStats) → i ≡ length fs → i < 9 → Holds fs rows → Holds (fs ++ x ∷ []) (set rows i x)
holds_next fs rows i x e h a =
    let n : 9 - length fs ≡ suc (8 - length fs) = omega arith in
    let m : 9 - length (fs ++ x ∷ []) ≡ 8 - length fs = omega (arith, length-append fs (x ∷ [])) in
    let r = replicate (8 - length fs) unused_row in
    let s : rows ≡ fs ++ unused_row ∷ r = rw n at a.is in
    record { is = rw (s, e, m) (set-append_seam fs unused_row r x ∙ sym (append_snoc fs x r)) }

pub holds_figures : (fs rows : List TStdChainStats) (n : ℕ) → n ≡ length fs → Holds fs rows → ◌≡◌ {A = Figures} (record { rows = rows; count = n }) (figures_of fs)
unfolding figures_of
holds_figures fs rows n e a = rw (e, a.is)

-- ---- the streams' rows

pub get_d_any : {A : Type 0} (l : List A) (i : ℕ) (d d' : A) → i < length l → get_or l i d ≡ get_or l i d'
get_d_any [] i d d' h = absurd (omega arith)
get_d_any (x ∷ l) zero d d' h = refl
get_d_any (x ∷ l) (suc i) d d' h = get_d_any l i d d' (omega arith)

module _ (cs : List Chain) where
  -- the row of stream i
  abbrev pub row_at : TStdStream → ℕ → TStdChainStats
  row_at s i = stream_row s.pid (get_or cs i unused_chain)

  -- as the code reads it, with what an array gives behind its end
  pub row_read : (s : TStdStream) (i : ℕ) (c : Chain) (x : TStdChainStats) → i < length cs → x ≡ stream_row s.pid (get_or cs i c) → x ≡ row_at s i
  row_read s i c x h e = e ∙ rw (get_d_any cs i c unused_chain h)

  pub rows_length : (i : ℕ) (ss : List TStdStream) → length (rows_from i ss cs) ≡ length ss
  unfolding rows_from
  rows_length i [] = refl
  rows_length i (s ∷ ss) = ap suc (rows_length (suc i) ss)

  -- one stream more
  rows_append : (i : ℕ) (ss : List TStdStream) (s : TStdStream) → rows_from i (ss ++ s ∷ []) cs ≡ rows_from i ss cs ++ row_at s (i + length ss) ∷ []
  unfolding rows_from
  rows_append i [] s = rw (add-zero i)
  rows_append i (x ∷ ss) s =
      let e : suc i + length ss ≡ i + suc (length ss) = omega arith in
      rw (rows_append (suc i) ss s, e)

  -- the rows of the first i streams are held
  pub record Filled (streams : List TStdStream) (n i : ℕ) (rows : List TStdChainStats) : Type 0 where
    pub within : i ≤ n
    pub size : length streams ≡ 8
    pub holds : Holds (rows_from 0 (take i streams) cs) rows

  module _ (streams : List TStdStream) (n : ℕ) (few : n ≤ 8) where
    pub filled_none : (x : TStdChainStats) → length streams ≡ 8 → x ≡ empty_stats 0 → Filled streams n 0 (replicate 9 x)
    unfolding rows_from
    filled_none x l e = record { within = omega arith; size = l; holds = record { is = rw e } }

    pub filled_next : (i : ℕ) (rows : List TStdChainStats) (x : TStdChainStats) → i < n → x ≡ row_at (get_or streams i unused_stream) i → Filled streams n i rows → Filled streams n (i + 1) (set rows i x)
    filled_next i rows x h e f =
        let l : length (take i streams) ≡ i = length-take-le i streams (omega (arith, f.size)) in
        let z : 0 + length (take i streams) ≡ i = omega arith in
        let r : rows_from 0 (take (suc i) streams) cs ≡ rows_from 0 (take i streams) cs ++ x ∷ [] =
        rw (take-suc streams i unused_stream (omega (arith, f.size)), rows_append 0 (take i streams) (get_or streams i unused_stream), e, z) in
        record {
          within = omega arith;
          size = f.size;
          holds = rw (add-one i, r) (holds_next (rows_from 0 (take i streams) cs) rows i x (sym (rows_length 0 (take i streams) ∙ l)) (omega arith) f.holds);
        }

    pub filled_all : (i : ℕ) (rows : List TStdChainStats) → n ≤ i → Filled streams n i rows → Holds (rows_from 0 (take n streams) cs) rows
    filled_all i rows h f =
        let e : i ≡ n = omega (arith, f.within) in
        rw e at f.holds

    pub rows_count : length streams ≡ 8 → n ≡ length (rows_from 0 (take n streams) cs)
    rows_count e = sym (rows_length 0 (take n streams) ∙ length-take-le n streams (omega arith))

-- ---- the system chain's row

module _ (c : TStdConfig) (s : SystemChain) (fs rows : List TStdChainStats) (n : ℕ) (e : n ≡ length fs) (few : n ≤ 8) (h : Holds fs rows) where
  pub figures_streams : c.system_count ≡ 0 → ◌≡◌ {A = Figures} (record { rows = rows; count = n }) (figures_of (fs ++ system_rows c s))
  unfolding system_rows
  figures_streams z = holds_figures fs rows n e h ∙ ap figures_of (sym (rw (eq-eqb c.system_count 0 z) (append-nil fs)))

  pub figures_system : (x : TStdChainStats) → (c.system_count ≡ 0 → ⊥) → x ≡ system_row c s
      → ◌≡◌ {A = Figures} (record { rows = set rows n x; count = n + 1 }) (figures_of (fs ++ system_rows c s))
  unfolding system_rows
  figures_system x z f =
      let m : n + 1 ≡ length (fs ++ x ∷ []) = omega (arith, length-append fs (x ∷ [])) in
      let r : fs ++ system_rows c s ≡ fs ++ x ∷ [] = rw (ne_eqb c.system_count 0 z, f) in
      holds_figures (fs ++ x ∷ []) (set rows n x) (n + 1) m (holds_next fs rows n x e (omega arith) h) ∙ ap figures_of (sym r)

-- ---- the chains of the definition

module _ (c : TStdConfig) (s : State) (cs : List Chain) where
  rows_from_lem : (i : ℕ) (ss : List TStdStream)
      → ((j : ℕ) → j < length ss → row_at cs (get_or ss j unused_stream) (i + j) ≡ stats_of (get_or ss j unused_stream) (get_or s.chains (i + j) (new_chain unused_stream)))
      → rows_from i ss cs ≡ stream_stats i ss c s
  unfolding rows_from stream_stats
  rows_from_lem i [] at = refl
  rows_from_lem i (x ∷ ss) at =
      let e : (j : ℕ) → suc i + j ≡ i + suc j = λ j. omega arith in
      let a : row_at cs x i ≡ stats_of x (get_or s.chains i (new_chain unused_stream)) = rw (add-zero i) at (at 0 (omega arith)) in
      rw (a, rows_from_lem (suc i) ss (λ j h. rw (e j) (at (suc j) (omega arith))))

  -- the rows are the figures of the definition's state s
  pub rows_are : (w : List Float) (depth k : ℕ) (system : SystemChain)
      → ((i : ℕ) → i < c.stream_count
      → ChainIs w (get_or c.streams i unused_stream) (8 * depth * i) depth k (get_or cs i unused_chain) (get_or s.chains i (new_chain unused_stream)))
      → system.tb ≡ s.sys_tb → system.branch ≡ s.sys
      → rows_from 0 (streams_of c) cs ++ system_rows c system ≡ stream_stats 0 (streams_of c) c s ++ system_stats c s
  unfolding system_rows system_row system_stats
  rows_are w depth k system chains e f =
      let at : (j : ℕ) → j < length (streams_of c) → row_at cs (get_or (streams_of c) j unused_stream) (0 + j) ≡ stats_of (get_or (streams_of c) j unused_stream) (get_or s.chains (0 + j) (new_chain unused_stream)) =
      λ j h.
      let l : j < c.stream_count = omega (arith, length-take c.stream_count c.streams, min-le_left c.stream_count (length c.streams)) in
      rw (zero-add j, get_or-take c.stream_count c.streams j unused_stream l) (row_is (chains j l)) in
      rw (rows_from_lem 0 (streams_of c) at, e, f)
