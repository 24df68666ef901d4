use Rattle.feed.proofs.Limited.{line_of_these}
use Rattle.feed.proofs.lines.Line.new.Goals as goal

pub returns : goal.returns
returns c =
    line_of_these _ _ _ _ _ _ _ c.in_ok-within.ensures.0 c.in_ok-within-2.ensures.0 c.in_ok-within-3.ensures.0 c.in_ok-within-4.ensures.0 c.in_ok-within-5.ensures.0 c.in_ok-within-6.ensures.0
