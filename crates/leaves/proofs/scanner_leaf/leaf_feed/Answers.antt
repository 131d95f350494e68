-- `leaf_feed` meets its contract. Assumes nothing.
use Rattle.leaves.proofs.Feeds.{feeds_none}
use Rattle.leaves.proofs.scanner_leaf.leaf_feed.Goals as goal

pub returns-then-state-lt-STATE_WORDS : goal.returns-then-state-lt-STATE_WORDS
returns-then-state-lt-STATE_WORDS c = feeds_none _ _ _ _ c.if-state-lt-STATE_WORDS.true
