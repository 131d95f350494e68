-- The replay by steps of pass 2: what is left behind a packet or an end of a stream, and what a full queue refuses.
use Rattle.std.proofs.Common.{◌≡◌, ℕ, suc, ◌+◌, ◌-◌, ◌<◌, length, refl, sym, ap, ◌∙◌, arith}
use Rattle.profile.specs.Config.{streams_of}
use Rattle.model.specs.Replay.{State, Ran, or_full}
use Rattle.tstd.specs.Rest.{finished}
use Rattle.tstd.specs.Run.{Pass, stream_count, clock_of, step_of, packets_left, ends_left, whole}
use Rattle.tstd.proofs.Rest.{packet_next, packets_through, end_next, ends_through}
use Rattle.tstd.proofs.Steps.{step_packet, step_end_at}

module _ (g : Pass) (s : State) where
  -- behind packet k
  pub packet_goes : (k : ℕ) (r : Ran) → k < g.count → ((n : ℕ) → whole g n ≡ packets_left g n k s) → step_of g k s ≡ r
      → (n : ℕ) → whole g n ≡ or_full k r (λ (s' : State). packets_left g n (suc k) s')
  packet_goes k r h now is n =
      now n
      ∙ packet_next g.config (clock_of g) n g.layout g.recording g.count k s h
      ∙ ap (λ (x : Ran). or_full k x (λ (s' : State). packets_left g n (suc k) s')) (sym (step_packet g k s h) ∙ is)

  -- behind the packets
  pub packets_gone : (k : ℕ) → k ≡ g.count → ((n : ℕ) → whole g n ≡ packets_left g n k s) → (n : ℕ) → whole g n ≡ ends_left g n 0 s
  packets_gone k e now n =
      let z : k - g.count ≡ 0 = omega arith in
      now n ∙ packets_through g.config (clock_of g) n g.layout g.recording g.count k s (omega arith) (omega arith) ∙ rw z refl

  module _ (counted : length (streams_of g.config) ≡ stream_count g) (i : ℕ) (now : (n : ℕ) → whole g n ≡ ends_left g n i s) where
    -- behind the end of stream i
    pub end_goes : (r : Ran) → i < stream_count g → step_of g (g.count + i) s ≡ r
        → (n : ℕ) → whole g n ≡ or_full g.count r (λ (s' : State). ends_left g n (suc i) s')
    end_goes r h is n =
        now n
        ∙ end_next g.config (clock_of g) n g.layout g.recording g.count i s (omega (arith, counted))
        ∙ ap (λ (x : Ran). or_full g.count x (λ (s' : State). ends_left g n (suc i) s')) (sym (step_end_at g i s) ∙ is)

    -- behind the last of them
    pub ends_gone : i ≡ stream_count g → (n : ℕ) → whole g n ≡ finished g.config (clock_of g) n g.layout g.recording g.count s
    ends_gone e n = now n ∙ ends_through g.config (clock_of g) n g.layout g.recording g.count i s (omega (arith, counted))
