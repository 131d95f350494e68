-- A configuration within its limits, field by field, from the test and back; and what larger limits allow.
-- Assumes nothing.
use Prim.Native.Nat.{ℕ, ◌≤◌, ◌<◌}
use mathlib.Core.Path.{◌≡◌, subst}
use mathlib.Core.Bool.{Bool, true, ◌&&◌}
use native.Mathlib.Nat.{le_trans}
use native.Mathlib.Omega.{arith}
use borrow.Author.Tests.{leb-true, le-leb}
use lib.Dec.{leb}
use lib.ListN.{length, get_or}
use lib.Seq.{length-take-le, get_or-take}
use Rattle.std.specs.List.{list_all}
use Rattle.std.proofs.lemmas.Bool.{and_parts, and_from}
use Rattle.std.proofs.lemmas.List.Elements.{All-from_get_or}
use Rattle.std.proofs.lemmas.List.Sums.{AllPass-from_list_all, list_all-from_AllPass}
use Rattle.profile.specs.declared.model.TStdBranch.{TStdBranch}
use Rattle.profile.specs.declared.model.TStdBranch.TheVariants.{Main, Video}
use Rattle.profile.specs.declared.config.TStdStream.{TStdStream}
use Rattle.profile.specs.declared.config.TStdConfig.{TStdConfig}
use Rattle.profile.specs.declared.limits.Limits.{Limits}
use Rattle.profile.specs.Range.{max_pid, max_streams, max_system_pids, min_queue_depth, min_clock_depth, max_clock_depth, between, pid_ok, rate_ok, size_ok}
use Rattle.profile.specs.Model.{branch_ok}
use Rattle.profile.specs.Config.{stream_ok, unused_stream, streams_of, system_pids}
use Rattle.profile.specs.Limits.{within_limits}
use Rattle.profile.proofs.Ranges.{Between, RateWithin, SizeWithin, between_true, true_between, rate_true, true_rate, size_true, true_size}

abbrev pub BranchWithin : TStdBranch → Type 0
BranchWithin (Main size) = SizeWithin size
BranchWithin (Video rbx mb eb) = RateWithin rbx × (SizeWithin mb × SizeWithin eb)

pub record StreamWithin (s : TStdStream) : Type 0 where
  pub pid : s.pid ≤ max_pid
  pub rx : RateWithin s.model.rx_bps
  pub branch : BranchWithin s.model.branch

pub record Within (limits : Limits) (c : TStdConfig) : Type 0 where
  pub pcr_pid : c.pcr_pid ≤ max_pid
  pub stream_count : c.stream_count ≤ max_streams
  pub system_count : c.system_count ≤ max_system_pids
  pub queue_depth : Between min_queue_depth limits.deepest_queue c.queue_depth
  pub clock_depth : Between min_clock_depth max_clock_depth c.clock_depth
  pub streams : (i : ℕ) → i < length (streams_of c) → StreamWithin (get_or (streams_of c) i unused_stream)
  pub system_pids : (i : ℕ) → i < length (system_pids c) → get_or (system_pids c) i 0 ≤ max_pid

branch_true : (b : TStdBranch) → branch_ok b ≡ true → BranchWithin b
unfolding branch_ok
branch_true (Main size) e = size_true size e
branch_true (Video rbx mb eb) e =
    let both = (and_parts (rate_ok rbx && size_ok mb) (size_ok eb) e).0 in
    (rate_true rbx (and_parts (rate_ok rbx) (size_ok mb) both).0, (size_true mb (and_parts (rate_ok rbx) (size_ok mb) both).1, size_true eb (and_parts (rate_ok rbx && size_ok mb) (size_ok eb) e).1))

true_branch : (b : TStdBranch) → BranchWithin b → branch_ok b ≡ true
unfolding branch_ok
true_branch (Main size) h = true_size size h
true_branch (Video rbx mb eb) h =
    and_from (rate_ok rbx && size_ok mb) (size_ok eb)
    (and_from (rate_ok rbx) (size_ok mb) (true_rate rbx h.0) (true_size mb h.1.0))
    (true_size eb h.1.1)

module _ (s : TStdStream) where
  rx_test : Bool
  rx_test = rate_ok s.model.rx_bps

  stream_true : stream_ok s ≡ true → StreamWithin s
  unfolding stream_ok rx_test
  stream_true e =
      let both = (and_parts (pid_ok s.pid && rx_test) (branch_ok s.model.branch) e).0 in
      record {
        pid = leb-true s.pid max_pid (and_parts (pid_ok s.pid) rx_test both).0;
        rx = rate_true s.model.rx_bps (and_parts (pid_ok s.pid) rx_test both).1;
        branch = branch_true s.model.branch (and_parts (pid_ok s.pid && rx_test) (branch_ok s.model.branch) e).1;
      }

  true_stream : StreamWithin s → stream_ok s ≡ true
  unfolding stream_ok rx_test
  true_stream h =
      and_from (pid_ok s.pid && rx_test) (branch_ok s.model.branch)
      (and_from (pid_ok s.pid) rx_test (le-leb s.pid max_pid h.pid) (true_rate s.model.rx_bps h.rx))
      (true_branch s.model.branch h.branch)

module _ (limits : Limits) (c : TStdConfig) where
  -- the first one, two, .. six of the tests that `within_limits` makes
  abbrev t1 : Bool
  t1 = pid_ok c.pcr_pid

  abbrev t2 : Bool
  t2 = t1 && leb c.stream_count max_streams

  abbrev t3 : Bool
  t3 = t2 && leb c.system_count max_system_pids

  abbrev t4 : Bool
  t4 = t3 && between min_queue_depth limits.deepest_queue c.queue_depth

  abbrev t5 : Bool
  t5 = t4 && between min_clock_depth max_clock_depth c.clock_depth

  abbrev t6 : Bool
  t6 = t5 && list_all stream_ok (streams_of c)

  pub limits_within : within_limits limits c ≡ true → Within limits c
  unfolding within_limits
  limits_within e =
      let e6 = (and_parts t6 (list_all pid_ok (system_pids c)) e).0 in
      let e5 = (and_parts t5 (list_all stream_ok (streams_of c)) e6).0 in
      let e4 = (and_parts t4 (between min_clock_depth max_clock_depth c.clock_depth) e5).0 in
      let e3 = (and_parts t3 (between min_queue_depth limits.deepest_queue c.queue_depth) e4).0 in
      let e2 = (and_parts t2 (leb c.system_count max_system_pids) e3).0 in
      record {
        pcr_pid = leb-true c.pcr_pid max_pid (and_parts t1 (leb c.stream_count max_streams) e2).0;
        stream_count = leb-true c.stream_count max_streams (and_parts t1 (leb c.stream_count max_streams) e2).1;
        system_count = leb-true c.system_count max_system_pids (and_parts t2 (leb c.system_count max_system_pids) e3).1;
        queue_depth =
            between_true min_queue_depth limits.deepest_queue c.queue_depth
            (and_parts t3 (between min_queue_depth limits.deepest_queue c.queue_depth) e4).1;
        clock_depth =
            between_true min_clock_depth max_clock_depth c.clock_depth (and_parts t4 (between min_clock_depth max_clock_depth c.clock_depth) e5).1;
        streams =
            λ i h.
            stream_true (get_or (streams_of c) i unused_stream)
            (AllPass-from_list_all stream_ok (streams_of c) (and_parts t5 (list_all stream_ok (streams_of c)) e6).1 i unused_stream h);
        system_pids =
            λ i h.
            leb-true (get_or (system_pids c) i 0) max_pid
            (AllPass-from_list_all pid_ok (system_pids c) (and_parts t6 (list_all pid_ok (system_pids c)) e).1 i 0 h);
      }

  pub within_limits_lem : Within limits c → within_limits limits c ≡ true
  unfolding within_limits
  within_limits_lem w =
      and_from t6 (list_all pid_ok (system_pids c))
      (and_from t5 (list_all stream_ok (streams_of c))
      (and_from t4 (between min_clock_depth max_clock_depth c.clock_depth)
      (and_from t3 (between min_queue_depth limits.deepest_queue c.queue_depth)
      (and_from t2 (leb c.system_count max_system_pids)
      (and_from t1 (leb c.stream_count max_streams) (le-leb c.pcr_pid max_pid w.pcr_pid) (le-leb c.stream_count max_streams w.stream_count))
      (le-leb c.system_count max_system_pids w.system_count))
      (true_between min_queue_depth limits.deepest_queue c.queue_depth w.queue_depth))
      (true_between min_clock_depth max_clock_depth c.clock_depth w.clock_depth))
      (list_all-from_AllPass stream_ok (streams_of c) (All-from_get_or (λ s. stream_ok s ≡ true) (streams_of c) unused_stream (λ i h. true_stream (get_or (streams_of c) i unused_stream) (w.streams i h)))))
      (list_all-from_AllPass pid_ok (system_pids c) (All-from_get_or (λ p. pid_ok p ≡ true) (system_pids c) 0 (λ i h. le-leb (get_or (system_pids c) i 0) max_pid (w.system_pids i h))))

  -- a slot in use, where the array has its eight slots
  pub stream_within : Within limits c → length c.streams ≡ max_streams → (i : ℕ) → i < c.stream_count → StreamWithin (get_or c.streams i unused_stream)
  stream_within w whole i h =
      let all : length (streams_of c) ≡ c.stream_count = length-take-le c.stream_count c.streams (omega (arith, w.stream_count, whole)) in
      let inside : i < length (streams_of c) = omega (arith, all) in
      subst StreamWithin (get_or-take c.stream_count c.streams i unused_stream h) (w.streams i inside)

-- the one pair of limits is at most the other
pub record NoLarger (small large : Limits) : Type 0 where
  pub recording : small.longest_recording ≤ large.longest_recording
  pub queue : small.deepest_queue ≤ large.deepest_queue

module _ {small large : Limits} (le : NoLarger small large) (c : TStdConfig) where
  pub within_larger : Within small c → Within large c
  within_larger w =
      record {
        pcr_pid = w.pcr_pid;
        stream_count = w.stream_count;
        system_count = w.system_count;
        queue_depth = record { least = w.queue_depth.least; most = le_trans w.queue_depth.most le.queue };
        clock_depth = w.clock_depth;
        streams = w.streams;
        system_pids = w.system_pids;
      }

  pub limits_larger : within_limits small c ≡ true → within_limits large c ≡ true
  limits_larger e = within_limits_lem large c (within_larger (limits_within small c e))
