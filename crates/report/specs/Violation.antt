-- What each violation tells, its key, and the worse of two (document 01, `record`; TStdViolation::key and merge_worse of the Rust).
use Rattle.std.specs.Prelude.{ℕ, max, Bool, cond, ◌&&◌, eqb, Float}
use Rattle.ieee.specs.Binary64.{0f}
use Rattle.ieee.specs.MaxMin.{max_num}
use Rattle.report.specs.declared.violation.Key.{Key}
use Rattle.report.specs.declared.violation.Figure.{Figure}
use Rattle.report.specs.declared.violation.Figure.TheVariants.{Bytes, Seconds}
use Rattle.report.specs.declared.violation.ViolationFields.{ViolationFields}
use Rattle.report.specs.declared.violation.TStdViolation.{TStdViolation}
use Rattle.report.specs.declared.violation.TStdViolation.TheVariants.{TbOverflow, TbBusyOverOneSecond, MainOverflow, MainUnderflow, MbOverflow, MbBusyOverOneSecond, EbUnderflow, DelayOverOneSecond, BsysOverflow}

-- kind, PID, limit, decode time and figure
abbrev pub in_bytes : ℕ → ℕ → ℕ → Float → ℕ → ViolationFields
in_bytes k p l t n = record { kind = k; pid = p; limit = l; decode_time = t; figure = Bytes n }

abbrev pub in_seconds : ℕ → ℕ → Float → Float → ViolationFields
in_seconds k p t s = record { kind = k; pid = p; limit = 0; decode_time = t; figure = Seconds s }

unfoldable pub fields_of : TStdViolation → ViolationFields
fields_of (TbOverflow p n) = in_bytes 0 p 0 0f n
fields_of (TbBusyOverOneSecond p s) = in_seconds 1 p 0f s
fields_of (MainOverflow p n l) = in_bytes 2 p l 0f n
fields_of (MainUnderflow p t n) = in_bytes 3 p 0 t n
fields_of (MbOverflow p n l) = in_bytes 4 p l 0f n
fields_of (MbBusyOverOneSecond p s) = in_seconds 5 p 0f s
fields_of (EbUnderflow p t n) = in_bytes 6 p 0 t n
fields_of (DelayOverOneSecond p t s) = in_seconds 7 p t s
fields_of (BsysOverflow n) = in_bytes 8 0 0 0f n

unfoldable pub key_of : TStdViolation → Key
key_of v = record { kind = (fields_of v).kind; pid = (fields_of v).pid }

abbrev pub same_key : Key → Key → Bool
same_key k l = eqb k.kind l.kind && eqb k.pid l.pid

-- the larger of two figures; one of bytes and one of seconds leave the first
unfoldable pub worse : Figure → Figure → Figure
worse (Bytes m) (Bytes n) = Bytes (max m n)
worse (Bytes m) (Seconds t) = Bytes m
worse (Seconds s) (Bytes n) = Seconds s
worse (Seconds s) (Seconds t) = Seconds (max_num s t)

abbrev pub bytes_or : ℕ → Figure → ℕ
bytes_or m (Bytes n) = n
bytes_or m (Seconds t) = m

abbrev pub seconds_or : Float → Figure → Float
seconds_or s (Bytes n) = s
seconds_or s (Seconds t) = t

-- the violation with another figure of its own sort
unfoldable pub with_figure : TStdViolation → Figure → TStdViolation
with_figure (TbOverflow p n) f = TbOverflow p (bytes_or n f)
with_figure (TbBusyOverOneSecond p s) f = TbBusyOverOneSecond p (seconds_or s f)
with_figure (MainOverflow p n l) f = MainOverflow p (bytes_or n f) l
with_figure (MainUnderflow p t n) f = MainUnderflow p t (bytes_or n f)
with_figure (MbOverflow p n l) f = MbOverflow p (bytes_or n f) l
with_figure (MbBusyOverOneSecond p s) f = MbBusyOverOneSecond p (seconds_or s f)
with_figure (EbUnderflow p t n) f = EbUnderflow p t (bytes_or n f)
with_figure (DelayOverOneSecond p t s) f = DelayOverOneSecond p t (seconds_or s f)
with_figure (BsysOverflow n) f = BsysOverflow (bytes_or n f)

-- the first, with the worse of the two figures where they are of one kind
unfoldable pub merge_of : TStdViolation → TStdViolation → TStdViolation
merge_of a b = cond (eqb (fields_of a).kind (fields_of b).kind) (with_figure a (worse (fields_of a).figure (fields_of b).figure)) a

-- what is asked of a figure in bytes, and of one in seconds
abbrev pub FigureHas : (ℕ → Type 0) → (Float → Type 0) → Figure → Type 0
FigureHas B S (Bytes n) = B n
FigureHas B S (Seconds s) = S s

-- what is asked of a violation's limit, decode time and figure
pub record FieldsHave (L : ℕ → Type 0) (D : Float → Type 0) (B : ℕ → Type 0) (S : Float → Type 0) (v : TStdViolation) : Type 0 where
  pub limit : L (fields_of v).limit
  pub decode : D (fields_of v).decode_time
  pub figure : FigureHas B S (fields_of v).figure
