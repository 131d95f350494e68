-- What the functions behind C names answer, from the definition of each function under them: a number, and words that are stored
-- from the start of a lent slice.
use Rattle.std.specs.Prelude.{◌≡◌, ℕ, ◌+◌, ◌-◌, ◌%◌, ◌^◌, Bool, cond, List, [], ◌∷◌, ◌++◌, length, drop, ℤ, pos, negsuc, ◌==◌, nat_le, slice_index_or, Float, Option, Some, None, Result, Ok, Err}
use Rattle.std.specs.Int.{from_bool}
use Rattle.std.specs.Float.{nan}
use Rattle.error.specs.declared.Refusal.{Refusal}
use Rattle.error.specs.Code.{code_of}
use Rattle.packet.specs.declared.TsPacketLayout.{TsPacketLayout}
use Rattle.profile.specs.declared.model.TStdStreamModel.{TStdStreamModel}
use Rattle.profile.specs.Model.{audio_model, video_low_main_level, video_high_level}
use Rattle.words.specs.Profile.{branch_words}
use Rattle.fifo.specs.declared.FluidFifo.{FluidFifo}
use Rattle.fifo.specs.declared.Pushed.{Pushed}
use Rattle.fifo.specs.FluidFifo.{pushed}

-- words in front of what a slice holds, where it has room for all of them
unfoldable pub stored : {A : Type 0} → (words out : List A) → List A
stored words out = cond (nat_le (length words) (length out)) (words ++ drop (length words) out) out

-- a number and words; a refusal has none
pub record Leaf : Type 0 where
  pub number : ℕ
  pub words : List ℕ

abbrev pub done : List ℕ → Leaf
done ws = record { number = 0; words = ws }

abbrev pub refused : Refusal → Leaf
refused x = record { number = (code_of x).number; words = [] }

unfoldable pub told_leaf : Result (List ℕ) Refusal → Leaf
told_leaf (Ok ws) = done ws
told_leaf (Err x) = refused x

-- the number, and the slice before and after
pub record Told (a : Leaf) (number : ℕ) (out₀ out₁ : List ℕ) : Type 0 where
  pub is : number ≡ a.number
  pub holds : out₁ ≡ stored a.words out₀

-- 1 or 0
abbrev pub flag_word : Bool → ℕ
flag_word b = from_bool b

-- the word of a number that is there, where 0 tells that there is none
unfoldable pub plus_one : ℕ → ℕ
plus_one n = (n + 1) % 2 ^ 64

unfoldable pub word_of : Option ℕ → ℕ
word_of (Some n) = plus_one n
word_of None = 0

-- ---- clock
unfoldable pub stamp_leaf : Result ℕ Refusal → Leaf
stamp_leaf (Ok t) = done (t ∷ [])
stamp_leaf (Err x) = refused x

-- a signed number of 64 bits as its word
unfoldable pub twos_complement : ℤ → ℕ
twos_complement (pos n) = n
twos_complement (negsuc n) = 2 ^ 64 - 1 - n

unfoldable pub delta_leaf : Result ℤ Refusal → Leaf
delta_leaf (Ok step) = done (twos_complement step ∷ [])
delta_leaf (Err x) = refused x

-- ---- PES and layout
unfoldable pub size_found : Option TsPacketLayout → ℕ
size_found (Some l) = l.packet_size
size_found None = 0

-- ---- stream models: 0 audio, 1 low or main level, 2 high level
unfoldable pub model_by : (kind a b c : ℕ) → Result TStdStreamModel Refusal
model_by kind a b c =
    cond (kind == 0) (Ok audio_model)
    (cond (kind == 1) (video_low_main_level a b c)
    (cond (kind == 2) (video_high_level a b c) (Err Refusal.OutsideLimits)))

unfoldable pub model_words : TStdStreamModel → List ℕ
model_words m = m.rx_bps ∷ branch_words m.branch

unfoldable pub model_leaf : Result TStdStreamModel Refusal → Leaf
model_leaf (Ok m) = done (model_words m)
model_leaf (Err x) = refused x

-- ---- FIFO
unfoldable pub fifo_figures : FluidFifo → List Float
fifo_figures f = f.rate ∷ f.virtual_done ∷ f.busy_since ∷ f.peak ∷ f.longest_busy ∷ []

unfoldable pub fifo_at : List Float → FluidFifo
fifo_at s =
    record { rate = slice_index_or s 0 nan; virtual_done = slice_index_or s 1 nan; busy_since = slice_index_or s 2 nan; peak = slice_index_or s 3 nan; longest_busy = slice_index_or s 4 nan }

unfoldable pub window_figures : Pushed → List Float
window_figures p = p.start ∷ p.end ∷ []

-- a state of fewer than five figures is none, and nothing is stored
pub record Pushes (state : List Float) (from to bytes : Float) (out state' out' : List Float) : Type 0 where
  pub state_holds : state' ≡ stored (fifo_figures (pushed (fifo_at state) from to bytes).fifo) state
  pub out_holds : out' ≡ cond (nat_le 5 (length state)) (stored (window_figures (pushed (fifo_at state) from to bytes)) out) out
