-- Which slots share a key: of two streams those of one kind where the PIDs are equal, and of a stream and the system chain those of the
-- transport buffers where the stream has the first system PID. (In a replay the second of two streams with one PID gets no packets.)
use mathlib.Core.Path.{◌≡◌, refl, sym, ap, ◌∙◌}
use mathlib.Core.Bool.{cond, ◌||◌}
use Prim.Native.Nat.{ℕ}
use native.Mathlib.Omega.{arith}
use lib.Dec.{eqb}
use lib.Ieee.{Float}
use Rattle.report.specs.declared.violation.Key.{Key}
use Rattle.report.specs.declared.violation.TStdViolation.{TStdViolation}
use Rattle.report.specs.Violation.{fields_of, key_of}
use Rattle.report.proofs.Commute.{kind_eq}
use Rattle.profile.specs.declared.model.TStdBranch.{TStdBranch}
use Rattle.profile.specs.declared.model.TStdBranch.TheVariants.{Main, Video}
use Rattle.profile.specs.declared.config.TStdStream.{TStdStream}
use Rattle.events.specs.declared.Event.{Event}
use Rattle.events.specs.declared.Event.TheVariants.{Overflow, Underflow, Delay, TbOverflow, TbBusy, MbBusy}
use Rattle.events.specs.Event.{kind_of}
use Rattle.summary.specs.Violation.{overflow_in, underflow_in, chain_violation, stream_violation, system_violation}
use Rattle.summary.proofs.Merge.{kind_few}

-- the kind of event that a stream's violation of a kind comes from, and 6 for BsysOverflow, which no stream has
kind_back : ℕ → ℕ
kind_back n =
    cond (eqb n 2 || eqb n 4) 0
    (cond (eqb n 3 || eqb n 6) 1 (cond (eqb n 7) 2 (cond (eqb n 0) 3 (cond (eqb n 1) 4 (cond (eqb n 5) 5 6)))))

-- what a violation's key tells of its event
record Tells (v : TStdViolation) (k p : ℕ) : Type 0 where
  kind : kind_back (fields_of v).kind ≡ k
  pid : (fields_of v).pid ≡ p

overflow_tells : (b : TStdBranch) (p n : ℕ) → Tells (overflow_in b p n) 0 p
unfolding overflow_in fields_of kind_back
overflow_tells (Main size) p n = record { kind = refl; pid = refl }
overflow_tells (Video rbx mb eb) p n = record { kind = refl; pid = refl }

underflow_tells : (b : TStdBranch) (p : ℕ) (t : Float) (n : ℕ) → Tells (underflow_in b p t n) 1 p
unfolding underflow_in fields_of kind_back
underflow_tells (Main size) p t n = record { kind = refl; pid = refl }
underflow_tells (Video rbx mb eb) p t n = record { kind = refl; pid = refl }

stream_tells : (s : TStdStream) (e : Event) → Tells (stream_violation s e) (kind_of e) s.pid
unfolding chain_violation fields_of kind_back kind_of
stream_tells s (Overflow b) = overflow_tells s.model.branch s.pid _
stream_tells s (Underflow t b) = underflow_tells s.model.branch s.pid t _
stream_tells s (Delay t d) = record { kind = refl; pid = refl }
stream_tells s (TbOverflow b) = record { kind = refl; pid = refl }
stream_tells s (TbBusy d) = record { kind = refl; pid = refl }
stream_tells s (MbBusy d) = record { kind = refl; pid = refl }

same_pid : (v w : TStdViolation) → key_of v ≡ key_of w → (fields_of v).pid ≡ (fields_of w).pid
unfolding key_of
same_pid v w e = ap (λ (k : Key). k.pid) e

told_alike : {v w : TStdViolation} {i p j q : ℕ} → Tells v i p → Tells w j q → key_of v ≡ key_of w → (i ≡ j) × (p ≡ q)
told_alike {v} {w} a b e =
    (sym a.kind ∙ ap kind_back (kind_eq v w e) ∙ b.kind, sym a.pid ∙ same_pid v w e ∙ b.pid)

pub streams_share : (s t : TStdStream) (e f : Event) → key_of (stream_violation s e) ≡ key_of (stream_violation t f) → (kind_of e ≡ kind_of f) × (s.pid ≡ t.pid)
streams_share s t e f h = told_alike (stream_tells s e) (stream_tells t f) h

-- no stream has a BsysOverflow
not_bsys : (s : TStdStream) (e : Event) {w : TStdViolation} → Tells w 6 0 → key_of (stream_violation s e) ≡ key_of w → {A : Type 0} → A
not_bsys s e b h = absurd (let k : kind_of e ≡ 6 = (told_alike (stream_tells s e) b h).0 in omega (arith, kind_few e))

pub system_shares : (s : TStdStream) (pid : ℕ) (e f : Event) → key_of (stream_violation s e) ≡ key_of (system_violation pid f) → (kind_of e ≡ kind_of f) × (s.pid ≡ pid)
unfolding chain_violation fields_of kind_back kind_of
system_shares s pid e (Overflow b) h = not_bsys s e (record { kind = refl; pid = refl }) h
system_shares s pid e (Underflow t b) h = not_bsys s e (record { kind = refl; pid = refl }) h
system_shares s pid e (Delay t d) h = not_bsys s e (record { kind = refl; pid = refl }) h
system_shares s pid e (TbOverflow b) h = told_alike (stream_tells s e) (record { kind = refl; pid = refl }) h
system_shares s pid e (TbBusy d) h = told_alike (stream_tells s e) (record { kind = refl; pid = refl }) h
system_shares s pid e (MbBusy d) h = not_bsys s e (record { kind = refl; pid = refl }) h
