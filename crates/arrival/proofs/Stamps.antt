-- A stamp's time: no reference of an extended PCR is refused by `extend_near`.
use Rattle.std.proofs.Common.{◌≡◌, ℕ, ◌-◌, ◌/◌, ◌^◌, ◌<◌, arith, lt-ltb}
use Rattle.clock.specs.Timestamp.{timestamp_modulus}
use Rattle.arrival.specs.declared.RateInterval.{RateInterval}
use Rattle.arrival.specs.Times.{decode_time, decode_time_or_zero}

module _ (i : RateInterval) (raw : ℕ) where
  pub decode_time_is : i.pcr_ref_90k < 2 ^ 64 - timestamp_modulus → decode_time_or_zero i raw ≡ decode_time i raw
  unfolding decode_time_or_zero
  decode_time_is h = rw (lt-ltb i.pcr_ref_90k (2 ^ 64 - timestamp_modulus) h)

  -- the reference of a PCR in 64 bits
  pub decode_time_of_pcr : (extended : ℕ) → extended < 2 ^ 64 → i.pcr_ref_90k ≡ extended / 300 → decode_time_or_zero i raw ≡ decode_time i raw
  decode_time_of_pcr extended h e = decode_time_is (omega arith)
