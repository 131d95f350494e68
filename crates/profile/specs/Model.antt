-- What the constructors of a stream model give: TStdStreamModel of the Rust, step by step, behind document 01's limits on
-- each rate and size argument.
use Rattle.std.specs.Prelude.{ℕ, ◌+◌, ◌-◌, ◌/◌, min, Bool, cond, ◌&&◌, Result, Ok, Err}
use Rattle.error.specs.declared.Refusal.{Refusal}
use Rattle.profile.specs.declared.model.TStdBranch.{TStdBranch}
use Rattle.profile.specs.declared.model.TStdBranch.TheVariants.{Main, Video}
use Rattle.profile.specs.declared.model.TStdStreamModel.{TStdStreamModel}
use Rattle.profile.specs.Range.{rate_ok, size_ok}

unfoldable pub branch_ok : TStdBranch → Bool
branch_ok (Main size) = size_ok size
branch_ok (Video rbx mb eb) = rate_ok rbx && size_ok mb && size_ok eb

-- the model where the arguments are within their limits, else number 1
abbrev pub model_if : Bool → TStdStreamModel → Result TStdStreamModel Refusal
model_if ok m = cond ok (Ok m) (Err Refusal.OutsideLimits)

unfoldable pub new_model : ℕ → TStdBranch → Result TStdStreamModel Refusal
new_model rx b = model_if (rate_ok rx && branch_ok b) (record { rx_bps = rx; branch = b })

unfoldable pub with_rx_bps : TStdStreamModel → ℕ → Result TStdStreamModel Refusal
with_rx_bps m rx = model_if (rate_ok rx) (record { rx_bps = rx; branch = m.branch })

unfoldable pub with_branch : TStdStreamModel → TStdBranch → Result TStdStreamModel Refusal
with_branch m b = model_if (branch_ok b) (record { rx_bps = m.rx_bps; branch = b })

-- audio other than ADTS: Rxn 2,000,000 bit/s, BSn 3,584 bytes
abbrev pub audio_model : TStdStreamModel
audio_model = record { rx_bps = 2000000; branch = Main 3584 }

-- BSmux + BSoh in bytes: Rmax for 0.004 s and for 1/750 s
abbrev pub mux_and_overhead : ℕ → ℕ
mux_and_overhead rmax = rmax / 250 / 8 + rmax / 750 / 8

-- Rxn = 1.2 × Rmax
abbrev pub video_model : (rmax rbx mb eb : ℕ) → TStdStreamModel
video_model rmax rbx mb eb = record { rx_bps = rmax + rmax / 5; branch = Video rbx mb eb }

-- Low and Main level: Rbxn = Rmax, MBSn = BSmux + BSoh + VBVmax − vbv_buffer_size, EBSn = vbv_buffer_size
unfoldable pub video_low_main_level : (rmax vbv vbvMax : ℕ) → Result TStdStreamModel Refusal
video_low_main_level rmax vbv vbvMax =
    model_if (rate_ok rmax && size_ok vbv && size_ok vbvMax)
    (video_model rmax rmax (mux_and_overhead rmax + (vbvMax - vbv)) vbv)

-- High-1440 and High level: Rbxn = min(1.05 × Res, Rmax), MBSn = BSmux + BSoh, EBSn = vbv_buffer_size
unfoldable pub video_high_level : (rmax res vbv : ℕ) → Result TStdStreamModel Refusal
video_high_level rmax res vbv =
    model_if (rate_ok rmax && rate_ok res && size_ok vbv)
    (video_model rmax (min (res + res / 20) rmax) (mux_and_overhead rmax) vbv)
