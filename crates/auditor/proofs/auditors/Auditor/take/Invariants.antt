use Rattle.std.proofs.Common.{List}
use Rattle.book.specs.Rules.{Rule}
use Rattle.feed.specs.declared.lines.Line.{Line}
use Rattle.auditor.specs.Holds.{Holds}
use Rattle.auditor.proofs.Takings.{Sofar}
use Rattle.auditor.proofs.auditors.Auditor.take.Given as goal

abbrev pub invariant-loop-lines : goal.invariant-loop-lines
invariant-loop-lines g l =
    let w = g.F.Feed.waiting in
    (rs : List Rule) (log : List Line) → Holds rs log l.initial.self → Sofar rs log (w l.initial.feed) l.lines l.self (w l.feed)
