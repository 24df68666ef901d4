use Rattle.std.proofs.Common.{length}
use Rattle.feed.specs.Recorded.{waiting_of}
use Rattle.feed.specs.Text.{text_line}
use Rattle.audit.proofs.witness.packed_words.Given as goal

abbrev pub decreases-loop-line : goal.decreases-loop-line
decreases-loop-line l = length (waiting_of text_line 35 l.feed)
