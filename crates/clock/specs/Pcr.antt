-- The signed step between two PCRs (27 MHz ticks, modulo 2 ^ 33 × 300), as `Pcr::delta_ticks` takes it.
use Rattle.std.specs.Prelude.{ℕ, ◌*◌, ◌/◌, ◌^◌, cond, ◌&&◌, ltb, ℤ, pos, neg_ℤ, ◌+ℤ◌, ◌-ℤ◌, Result, Ok, Err}
use Rattle.std.specs.Int.Signed.{lt_z}
use Rattle.error.specs.declared.Refusal.{Refusal}
use Rattle.clock.specs.declared.Pcr.{Pcr}

-- one wrap of base × 300 + extension (H.222.0 2.4.2.2)
abbrev pub pcr_modulus : ℕ
pcr_modulus = 2 ^ 33 * 300

abbrev pub half_pcr_modulus : ℕ
half_pcr_modulus = pcr_modulus / 2

-- a difference brought within half a wrap; just half a wrap stays as it comes, of either sign
unfoldable pub wrapped : ℤ → ℤ
wrapped raw =
    cond (lt_z (pos half_pcr_modulus) raw) (raw -ℤ pos pcr_modulus)
    (cond (lt_z raw (neg_ℤ (pos half_pcr_modulus))) (raw +ℤ pos pcr_modulus) raw)

abbrev pub difference : Pcr → Pcr → ℤ
difference self other = pos self.ticks_27mhz -ℤ pos other.ticks_27mhz

-- ticks of a whole wrap or more are no PCR: number 1
unfoldable pub delta_ticks : Pcr → Pcr → Result ℤ Refusal
delta_ticks self other =
    cond (ltb self.ticks_27mhz pcr_modulus && ltb other.ticks_27mhz pcr_modulus)
    (Ok (wrapped (difference self other)))
    (Err Refusal.OutsideLimits)
