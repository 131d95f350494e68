-- Two refusals never share a code: number, place and PID give the refusal back. Number 0 is told exactly where nothing was refused.
-- Assumes nothing.
use Rattle.std.specs.Prelude.{◌≤◌, ◌↔◌, Result, Ok, Err, true}
use Rattle.std.specs.Result.{is_ok}
use Rattle.std.proofs.Common.{arith}
use mathlib.Core.Path.{◌≡◌, refl, sym, ap, ◌∙◌}
use mathlib.Core.Bool.{cond}
use lib.Dec.{eqb}
use Rattle.error.specs.declared.Refusal.{Refusal}
use Rattle.error.specs.declared.Code.{Code}
use Rattle.error.specs.Code.{code_of, code_told}

-- the refusal of a code
refusal_of : Code → Refusal
refusal_of c =
    cond (eqb c.number 1) Refusal.OutsideLimits
    (cond (eqb c.number 2) Refusal.WorkTooShort
    (cond (eqb c.number 3) Refusal.RecordingTooLong
    (cond (eqb c.number 4) Refusal.NoPacketLayout
    (cond (eqb c.number 5) Refusal.TooFewPcrs
    (cond (eqb c.number 6) (Refusal.DiscontinuityBeforeRate c.place)
    (cond (eqb c.number 7) (Refusal.RepeatedPcr c.place)
    (cond (eqb c.number 8) (Refusal.ClockFull c.place)
    (cond (eqb c.number 9) (Refusal.RateOutsideLimits c.place)
    (Refusal.QueueFull c.place c.pid)))))))))

back : (r : Refusal) → refusal_of (code_of r) ≡ r
unfolding refusal_of
back Refusal.OutsideLimits = refl
back Refusal.WorkTooShort = refl
back Refusal.RecordingTooLong = refl
back Refusal.NoPacketLayout = refl
back Refusal.TooFewPcrs = refl
back (Refusal.DiscontinuityBeforeRate sample) = refl
back (Refusal.RepeatedPcr sample) = refl
back (Refusal.ClockFull depth) = refl
back (Refusal.RateOutsideLimits sample) = refl
back (Refusal.QueueFull packet pid) = refl

pub code_injective : (a b : Refusal) → code_of a ≡ code_of b → a ≡ b
code_injective a b e = sym (back a) ∙ ap refusal_of e ∙ back b

-- a refusal's number is never 0
pub refused_number : (x : Refusal) → 1 ≤ (code_of x).number
refused_number Refusal.OutsideLimits = omega arith
refused_number Refusal.WorkTooShort = omega arith
refused_number Refusal.RecordingTooLong = omega arith
refused_number Refusal.NoPacketLayout = omega arith
refused_number Refusal.TooFewPcrs = omega arith
refused_number (Refusal.DiscontinuityBeforeRate n) = omega arith
refused_number (Refusal.RepeatedPcr n) = omega arith
refused_number (Refusal.ClockFull n) = omega arith
refused_number (Refusal.RateOutsideLimits n) = omega arith
refused_number (Refusal.QueueFull k pid) = omega arith

-- ---- what is told of an outcome
module _ {A : Type 0} where
  -- number 0 exactly where nothing was refused
  pub number_zero_iff : (o : Result A Refusal) → ((code_told o).number ≡ 0) ↔ (is_ok o ≡ true)
  number_zero_iff (Ok a) = (λ z. refl, λ e. refl)
  number_zero_iff (Err x) = (λ z. absurd (omega (arith, z, refused_number x)), λ e. absurd cc)

  -- a refusal's number, place and PID exactly where it is the one
  pub code_refused_iff : (o : Result A Refusal) (x : Refusal) → (code_told o ≡ code_of x) ↔ (o ≡ Err x)
  code_refused_iff (Ok a) x = (λ e. absurd (omega (arith, ap (λ (k : Code). k.number) e, refused_number x)), λ e. absurd cc)
  code_refused_iff (Err y) x = (λ e. ap Err (code_injective y x e), λ e. let same : y ≡ x = cc in ap code_of same)
