use Rattle.std.proofs.Common.{[], ◌∷◌, ◌++◌, ap, ◌∙◌}
use Rattle.feed.specs.Waiting.{later}
use Rattle.report.proofs.Noted.{one_noted}
use Rattle.report.proofs.surveys.survey.Goals as goal

pub loop-item-preserved : goal.loop-item-preserved
loop-item-preserved g c =
    let so = c.loop-item.invariant in
    let waiting = g.F.Feed.waiting in
    let item = c.in-Some.item in
    let looked = c.in-Some.ensures in (
      so.0 ++ (item ∷ []),
      one_noted (waiting c.args.feed.now) so.0 (waiting c.loop-item.feed) (waiting c.drop_first.new.self) item so.1 looked.answer (c.drop_first.ensures.after ∙ ap later looked.stays),
      c.in_ok-note.ensures so.0 so.2,
    )
