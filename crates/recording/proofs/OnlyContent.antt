-- Recordings that differ only in content at the layout that is found: they read alike, and differing only in content is an equivalence.
-- Assumes nothing.
use Prim.Native.Nat.{ℕ, ◌+◌, ◌≤◌}
use mathlib.Core.Path.{◌≡◌, refl, sym, ◌∙◌, ap}
use mathlib.Core.List.{List, []}
use native.Mathlib.Omega.{arith}
use lib.ListN.{length}
use Rattle.std.specs.Prelude.{Option, Some, None}
use Rattle.packet.specs.declared.TsPacketLayout.{TsPacketLayout}
use Rattle.packet.specs.Layout.{layout_of}
use Rattle.packet.proofs.Layouts.{found, known_room}
use Rattle.recording.specs.Read.{Streams, read_by, read_of}
use Rattle.recording.specs.Content.{content_by, content_of_found, OnlyContentAt, OnlyContent}
use Rattle.recording.proofs.Alike.{reads_alike_at, content_alike_at}

pub found_room : (l : List ℕ) (y : TsPacketLayout) → layout_of l ≡ Some y → y.sync_offset + 188 ≤ y.packet_size
found_room l y is = known_room (found l y is).known

-- without a layout only the length is read
unread : (s : Streams) (a b : List ℕ) → length a ≡ length b → read_by None s a ≡ read_by None s b
unfolding read_by
unread s a b e = λ i. record { size = e i; layout = None; facts = [] }

pub no_layout_alike : (s : Streams) (a b : List ℕ) → layout_of a ≡ None → layout_of b ≡ None → length a ≡ length b
    → read_of s a ≡ read_of s b
no_layout_alike s a b ea eb e = ap (λ (d : Option TsPacketLayout). read_by d s a) ea ∙ unread s a b e ∙ ap (λ (d : Option TsPacketLayout). read_by d s b) (sym eb)

module _ (s : Streams) (a b : List ℕ) (only : OnlyContent s a b) where
  only_at : (y : TsPacketLayout) → layout_of a ≡ Some y → OnlyContentAt y s a b
  unfolding content_by
  only_at y e = record { one_length = only.agree.one_length; alike = λ i h c. only.agree.alike i h (rw e c) }

  pub reads_alike : read_of s a ≡ read_of s b
  unfolding read_by
  reads_alike = go (layout_of a) refl ∙ ap (λ (d : Option TsPacketLayout). read_by d s b) only.one_layout
    where
      go : (d : Option TsPacketLayout) → layout_of a ≡ d → read_by (layout_of a) s a ≡ read_by (layout_of a) s b
      go (Some y) e = rw e (reads_alike_at y s (found_room a y e) a b (only_at y e))
      go None e = rw e (unread s a b only.agree.one_length)

  pub content_alike : (i : ℕ) → content_of_found s a i ≡ content_of_found s b i
  unfolding content_by
  content_alike i = go (layout_of a) refl ∙ ap (λ (d : Option TsPacketLayout). content_by d s b i) only.one_layout
    where
      go : (d : Option TsPacketLayout) → layout_of a ≡ d → content_by (layout_of a) s a i ≡ content_by (layout_of a) s b i
      go (Some y) e = rw e (content_alike_at y s (found_room a y e) a b (only_at y e) i)
      go None e = rw e

  pub only_content_symmetric : OnlyContent s b a
  only_content_symmetric =
      record {
        one_layout = sym only.one_layout;
        agree =
            record {
              one_length = sym only.agree.one_length;
              alike = λ i h c. sym (only.agree.alike i (omega (arith, only.agree.one_length)) (content_alike i ∙ c));
            };
      }

  pub only_content_transitive : (c : List ℕ) → OnlyContent s b c → OnlyContent s a c
  only_content_transitive c more =
      record {
        one_layout = only.one_layout ∙ more.one_layout;
        agree =
            record {
              one_length = only.agree.one_length ∙ more.agree.one_length;
              alike = λ i h m.
                  only.agree.alike i h m ∙ more.agree.alike i (omega (arith, only.agree.one_length)) (sym (content_alike i) ∙ m);
            };
      }

pub only_content_reflexive : (s : Streams) (a : List ℕ) → OnlyContent s a a
only_content_reflexive s a = record { one_layout = refl; agree = record { one_length = refl; alike = λ i h m. refl } }
