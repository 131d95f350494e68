-- `reading::read_full` meets its contract: a read's bytes stand behind those that came before it. Assumes nothing.
use Rattle.std.proofs.Common.{◌≡◌, ℕ, ◌+◌, ◌-◌, ◌≤◌, List, ◌++◌, rules, length, take, sym, ap, ◌∙◌, subst, length-take-le}
use Rattle.std.proofs.Math.Seq.{take-append-add}
use Rattle.std.proofs.lemmas.List.{take-append-le}
use Rattle.std.specs.Io.KnownBytes.{Consumes}
use Rattle.std.proofs.KnownBytes.{Consumes-trans}
use borrow.Rule.Slice.PartMut.{put_mid, post_of}
use Rattle.reading.proofs.read_full.Goals as goal

-- the first a stay, and the first n of those that were put there stand behind them
read_more : (a k n : ℕ) (xs ys : List ℕ) → a ≤ length xs → n ≤ length ys → take a xs ++ take n ys ≡ take (a + n) (put_mid a k xs ys)
read_more a k n xs ys within fits =
    sym
    (ap (λ m. take (m + n) (put_mid a k xs ys)) (sym (length-take-le a xs within))
    ∙ take-append-add (take a xs) (ys ++ post_of a k xs) n
    ∙ ap (λ l. take a xs ++ l) (take-append-le n ys (post_of a k xs) fits))

pub loop-at-preserved : goal.loop-at-preserved
loop-at-preserved g c =
    let buf = c.loop-at.buf in
    let more = read_more c.loop-at.at (length buf - c.loop-at.at) c.in_ok-n.n buf c.read.new.buf c.loop-at.invariant.0 c.in_ok-n.ensures.bound.0 in
    (search rules, (search rules, subst (Consumes _ _) more (Consumes-trans _ _ _ _ _ c.loop-at.invariant.1.1 c.in_ok-n.ensures.bytes.0)))
