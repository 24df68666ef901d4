use Rattle.std.proofs.Common.{◌≡◌, List, ◌++◌, length}
use Rattle.feed.specs.declared.faults.Item.{Item}
use Rattle.report.specs.Reported.{Reports}
use Rattle.report.proofs.surveys.survey.Given as goal

-- some items were noted, and the others still wait
abbrev pub invariant-loop-item : goal.invariant-loop-item
invariant-loop-item g l =
    let waiting = g.F.Feed.waiting in
    (noted : List Item) × (waiting l.initial.feed ≡ noted ++ waiting l.feed) × Reports noted l.report

abbrev pub decreases-loop-item : goal.decreases-loop-item
decreases-loop-item g l = length (g.F.Feed.waiting l.feed)
