-- What a refusal gives (document 01): number, place and PID of each case.
use Rattle.std.specs.Prelude.{ℕ, Result, Ok, Err}
use Rattle.error.specs.declared.Refusal.{Refusal}
use Rattle.error.specs.declared.Code.{Code}

-- a refusal that names neither place nor PID, and one that names a place
abbrev pub code_numbered : ℕ → Code
code_numbered n = record { number = n; place = 0; pid = 0 }

abbrev pub code_placed : ℕ → ℕ → Code
code_placed n p = record { number = n; place = p; pid = 0 }

abbrev pub code_of : Refusal → Code
code_of Refusal.OutsideLimits = code_numbered 1
code_of Refusal.WorkTooShort = code_numbered 2
code_of Refusal.RecordingTooLong = code_numbered 3
code_of Refusal.NoPacketLayout = code_numbered 4
code_of Refusal.TooFewPcrs = code_numbered 5
code_of (Refusal.DiscontinuityBeforeRate sample) = code_placed 6 sample
code_of (Refusal.RepeatedPcr sample) = code_placed 7 sample
code_of (Refusal.ClockFull depth) = code_placed 8 depth
code_of (Refusal.RateOutsideLimits sample) = code_placed 9 sample
code_of (Refusal.QueueFull packet pid) = record { number = 10; place = packet; pid = pid }

-- number 0 where nothing was refused
abbrev pub code_told : {A : Type 0} → Result A Refusal → Code
code_told (Ok x) = code_numbered 0
code_told (Err x) = code_of x
