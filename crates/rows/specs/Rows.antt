-- The rows of eight chains as lists: which field of a chain stands at which place, what is read of a chain and what a store leaves.
use Rattle.std.specs.Prelude.{ℕ, ◌+◌, ◌*◌, ◌/◌, ◌%◌, ◌≤◌, ◌<◌, ◌≡◌, true, cond, List, [], ◌∷◌, ◌++◌, ◌⊎◌, length, get_or, eqb, ltb, Option, Some, None, Float}
use Rattle.std.specs.Float.{nan}
use Rattle.std.specs.Float.Ieee.{ne}
use Rattle.ieee.specs.Binary64.{0f, -∞}
use Rattle.rows.specs.declared.Rows.{Rows}
use Rattle.fifo.specs.declared.FluidFifo.{FluidFifo}
use Rattle.fifo.specs.FluidFifo.{new}
use Rattle.branch.specs.declared.AccessUnit.{AccessUnit}
use Rattle.branch.specs.declared.queue.Ring.{Ring}
use Rattle.branch.specs.declared.units.Units.{Units}
use Rattle.branch.specs.declared.main_branch.MainBranch.{MainBranch}
use Rattle.branch.specs.declared.leak.Leak.{Leak}
use Rattle.branch.specs.declared.video_branch.VideoBranch.{VideoBranch}
use Rattle.branch.specs.Units.{open_of}
use Rattle.branch.specs.Stores.{store_from}
use Rattle.branch.specs.MainInWork as main-work
use Rattle.branch.specs.VideoInWork as video-work
use Rattle.scanner.specs.declared.PesScanner.{PesScanner}
use Rattle.scanner.specs.State.{idle}

abbrev pub rows_of : List Float → List ℕ → List ℕ → Rows
rows_of l n b = record { floats = l; counts = n; bytes = b }

-- eight chains
pub record Sized (r : Rows) : Type 0 where
  pub floats : length r.floats ≡ 256
  pub counts : length r.counts ≡ 128
  pub bytes : length r.bytes ≡ 128

-- ---- the fields of each part, in the order of their places

abbrev pub tb_floats : FluidFifo → List Float
tb_floats t = t.rate ∷ t.virtual_done ∷ t.busy_since ∷ t.peak ∷ t.longest_busy ∷ []

abbrev pub ring_counts : Ring → List ℕ
ring_counts q = q.head ∷ q.count ∷ []

-- where no unit is open, its floats are -∞, 0 and 0
unfoldable pub held : Option AccessUnit → AccessUnit
held None = record { decode_time = -∞; bytes = 0f; first_input_time = 0f }
held (Some u) = u

abbrev pub open_floats : Option AccessUnit → List Float
open_floats o = (held o).decode_time ∷ (held o).bytes ∷ (held o).first_input_time ∷ []

abbrev pub units_counts : Units → List ℕ
units_counts u = ring_counts u.pending ++ u.access_units ∷ []

abbrev pub main_floats : MainBranch → List Float
main_floats b = b.inflow.settled ∷ open_floats b.units.open_au ++ b.removed ∷ b.required ∷ b.peak ∷ b.units.max_delay_seconds ∷ []

abbrev pub main_counts : MainBranch → List ℕ
main_counts b = ring_counts b.inflow.runs ++ units_counts b.units

-- MBn and what it leaked
abbrev pub leak_floats : Leak → List Float
leak_floats k =
    k.mb_in.settled
    ∷ k.flow.transferred
    ∷ k.flow.eb_in
    ∷ k.flow.eb_removed
    ∷ k.flow.eb_peak
    ∷ k.busy_since
    ∷ k.longest_busy
    ∷ k.mb_peak
    ∷ k.proc_time
    ∷ []

abbrev pub leak_counts : Leak → List ℕ
leak_counts k = ring_counts k.mb_in.runs ++ ring_counts k.flow.marks

abbrev pub video_floats : VideoBranch → List Float
video_floats b = leak_floats b.leak ++ open_floats b.units.open_au ++ b.queued ∷ b.eb_required ∷ b.units.max_delay_seconds ∷ []

abbrev pub video_counts : VideoBranch → List ℕ
video_counts b = leak_counts b.leak ++ units_counts b.units

-- the count stands in two bytes, the lower first
abbrev pub scanner_bytes : PesScanner → List ℕ
scanner_bytes s =
    s.count % 256
    ∷ s.count / 256
    ∷ cond s.started 1 0
    ∷ s.header.stream_id
    ∷ s.header.flags
    ∷ s.header.header_data_length
    ∷ s.header.pts.b0
    ∷ s.header.pts.b1
    ∷ s.header.pts.b2
    ∷ s.header.pts.b3
    ∷ s.header.pts.b4
    ∷ s.header.dts.b0
    ∷ s.header.dts.b1
    ∷ s.header.dts.b2
    ∷ s.header.dts.b3
    ∷ s.header.dts.b4
    ∷ []

-- ---- what stands in a chain's floats, counts and bytes, which begin at b, c and b

abbrev pub tb_at : List Float → ℕ → FluidFifo
tb_at l b =
    record {
      rate = get_or l (b + 0) nan;
      virtual_done = get_or l (b + 1) nan;
      busy_since = get_or l (b + 2) nan;
      peak = get_or l (b + 3) nan;
      longest_busy = get_or l (b + 4) nan;
    }

-- the ring with its head and its count at these places
abbrev pub ring_at : List ℕ → ℕ → ℕ → Ring
ring_at n head count = record { head = get_or n head 0; count = get_or n count 0 }

-- the open unit from the place f on: none where its decode time is -∞
abbrev pub open_at : List Float → ℕ → ℕ → Option AccessUnit
open_at l b f = open_of (record { decode_time = get_or l (b + f) nan; bytes = get_or l (b + (f + 1)) nan; first_input_time = get_or l (b + (f + 2)) nan })

abbrev pub main_at : List Float → List ℕ → ℕ → ℕ → MainBranch
main_at l n b c =
    record {
      inflow = record { runs = ring_at n (c + 0) (c + 1); settled = get_or l (b + 5) nan };
      units = record {
        pending = ring_at n (c + 2) (c + 3);
        open_au = open_at l b 6;
        access_units = get_or n (c + 4) 0;
        max_delay_seconds = get_or l (b + 12) nan;
      };
      removed = get_or l (b + 9) nan;
      required = get_or l (b + 10) nan;
      peak = get_or l (b + 11) nan;
    }

abbrev pub video_leak_at : List Float → List ℕ → ℕ → ℕ → Leak
video_leak_at l n b c =
    record {
      mb_in = record { runs = ring_at n (c + 5) (c + 6); settled = get_or l (b + 13) nan };
      flow = record {
        marks = ring_at n (c + 7) (c + 8);
        transferred = get_or l (b + 14) nan;
        eb_in = get_or l (b + 15) nan;
        eb_removed = get_or l (b + 16) nan;
        eb_peak = get_or l (b + 17) nan;
      };
      busy_since = get_or l (b + 18) nan;
      longest_busy = get_or l (b + 19) nan;
      mb_peak = get_or l (b + 20) nan;
      proc_time = get_or l (b + 21) nan;
    }

abbrev pub video_at : List Float → List ℕ → ℕ → ℕ → VideoBranch
video_at l n b c =
    record {
      leak = video_leak_at l n b c;
      units = record {
        pending = ring_at n (c + 9) (c + 10);
        open_au = open_at l b 22;
        access_units = get_or n (c + 11) 0;
        max_delay_seconds = get_or l (b + 27) nan;
      };
      queued = get_or l (b + 25) nan;
      eb_required = get_or l (b + 26) nan;
    }

abbrev pub scanner_at : List ℕ → ℕ → PesScanner
scanner_at l b =
    record {
      count = get_or l (b + 0) 0 + 256 * get_or l (b + 1) 0;
      started = eqb (get_or l (b + 2) 0) 1;
      header = record {
        stream_id = get_or l (b + 3) 0;
        flags = get_or l (b + 4) 0;
        header_data_length = get_or l (b + 5) 0;
        pts = record { b0 = get_or l (b + 6) 0; b1 = get_or l (b + 7) 0; b2 = get_or l (b + 8) 0; b3 = get_or l (b + 9) 0; b4 = get_or l (b + 10) 0 };
        dts = record { b0 = get_or l (b + 11) 0; b1 = get_or l (b + 12) 0; b2 = get_or l (b + 13) 0; b3 = get_or l (b + 14) 0; b4 = get_or l (b + 15) 0 };
      };
    }

-- ---- the parts of chain i

unfoldable pub tb_in : List Float → ℕ → FluidFifo
tb_in l i = tb_at l (32 * i)

unfoldable pub main_in : List Float → List ℕ → ℕ → MainBranch
main_in l n i = main_at l n (32 * i) (16 * i)

unfoldable pub video_in : List Float → List ℕ → ℕ → VideoBranch
video_in l n i = video_at l n (32 * i) (16 * i)

unfoldable pub scanner_in : List ℕ → ℕ → PesScanner
scanner_in l i = scanner_at l (16 * i)

-- ---- a read: of a chain behind the eighth a new part

unfoldable pub read_tb : List Float → ℕ → FluidFifo
read_tb l i = cond (ltb i 8) (tb_in l i) (new 0)

unfoldable pub read_main : List Float → List ℕ → ℕ → MainBranch
read_main l n i = cond (ltb i 8) (main_in l n i) main-work.new_branch

unfoldable pub read_video : List Float → List ℕ → ℕ → VideoBranch
read_video l n i = cond (ltb i 8) (video_in l n i) video-work.new_branch

unfoldable pub read_scanner : List ℕ → ℕ → PesScanner
read_scanner l i = cond (ltb i 8) (scanner_in l i) idle

-- ---- a store: for a chain behind the eighth nothing

unfoldable pub stored_tb : List Float → ℕ → FluidFifo → List Float
stored_tb l i t = cond (ltb i 8) (store_from l (32 * i) 0 (tb_floats t)) l

unfoldable pub stored_main_floats : List Float → ℕ → MainBranch → List Float
stored_main_floats l i b = cond (ltb i 8) (store_from l (32 * i) 5 (main_floats b)) l

unfoldable pub stored_main_counts : List ℕ → ℕ → MainBranch → List ℕ
stored_main_counts n i b = cond (ltb i 8) (store_from n (16 * i) 0 (main_counts b)) n

unfoldable pub stored_video_floats : List Float → ℕ → VideoBranch → List Float
stored_video_floats l i b = cond (ltb i 8) (store_from l (32 * i) 13 (video_floats b)) l

unfoldable pub stored_video_counts : List ℕ → ℕ → VideoBranch → List ℕ
stored_video_counts n i b = cond (ltb i 8) (store_from n (16 * i) 5 (video_counts b)) n

unfoldable pub stored_scanner : List ℕ → ℕ → PesScanner → List ℕ
stored_scanner l i s = cond (ltb i 8) (store_from l (16 * i) 0 (scanner_bytes s)) l

-- ---- what a store tells

-- an open unit has a decode time other than -∞, so that it is told from none
abbrev pub Told : Option AccessUnit → Type 0
Told None = Unit
Told (Some u) = ne u.decode_time -∞ ≡ true

-- the units that are read again: an open one that isn't told is none
abbrev pub units_again : Units → Units
units_again u = record { pending = u.pending; open_au = open_of (held u.open_au); access_units = u.access_units; max_delay_seconds = u.max_delay_seconds }

-- and the branches
abbrev pub main_again : MainBranch → MainBranch
main_again b = record { inflow = b.inflow; units = units_again b.units; removed = b.removed; required = b.required; peak = b.peak }

abbrev pub video_again : VideoBranch → VideoBranch
video_again b = record { leak = b.leak; units = units_again b.units; queued = b.queued; eb_required = b.eb_required }

-- ---- what a change leaves

-- v is l but for what stands from lo to hi
pub record Kept {A : Type 0} (d : A) (lo hi : ℕ) (l v : List A) : Type 0 where
  pub size : length v ≡ length l
  pub same : (i : ℕ) → (i < lo) ⊎ (hi ≤ i) → get_or v i d ≡ get_or l i d

-- nothing but the transport buffer of chain i changed
abbrev pub OnlyTb : ℕ → List Float → List Float → Type 0
OnlyTb i l v = Kept nan (32 * i) (32 * i + 5) l v

-- nothing but the floats of chain i from place f to f', and its counts from k to k'
pub record OnlyPart (f f' k k' : ℕ) (i : ℕ) (l v : List Float) (n o : List ℕ) : Type 0 where
  pub floats : Kept nan (32 * i + f) (32 * i + f') l v
  pub counts : Kept 0 (16 * i + k) (16 * i + k') n o

-- nothing but its main branch
abbrev pub OnlyMain : ℕ → List Float → List Float → List ℕ → List ℕ → Type 0
OnlyMain i l v n o = OnlyPart 5 13 0 5 i l v n o

-- nothing but its video branch
abbrev pub OnlyVideo : ℕ → List Float → List Float → List ℕ → List ℕ → Type 0
OnlyVideo i l v n o = OnlyPart 13 28 5 12 i l v n o

-- nothing but its scanner
abbrev pub OnlyScanner : ℕ → List ℕ → List ℕ → Type 0
OnlyScanner i b o = Kept 0 (16 * i) (16 * i + 16) b o

-- nothing but chain i
pub record OnlyChain (i : ℕ) (r v : Rows) : Type 0 where
  pub floats : Kept nan (32 * i) (32 * i + 32) r.floats v.floats
  pub counts : Kept 0 (16 * i) (16 * i + 16) r.counts v.counts
  pub bytes : OnlyScanner i r.bytes v.bytes
