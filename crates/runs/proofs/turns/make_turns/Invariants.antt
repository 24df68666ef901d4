use Rattle.runs.specs.Making.{SameFeeds, seat, BothAgree}
use Rattle.runs.specs.Turns.{Both}
use Rattle.runs.proofs.Turning.{Turning}
use Rattle.runs.proofs.turns.make_turns.Given as goal

abbrev pub invariant-loop-turn : goal.invariant-loop-turn
invariant-loop-turn g l =
    let ws = g.F.Feeds.lists in
    let vs = g.G.Feeds.lists in
    let saw = g.O.Observer.saw in
    record {
      left : SameFeeds l.initial.first l.first;
      right : SameFeeds l.initial.second l.second;
      made : (b : Both) → BothAgree b (seat ws l.initial.first) (seat vs l.initial.second)
          → Turning b l.initial.turns l.turn-index l.turns (seat ws l.first) (seat vs l.second) (saw l.initial.observer) (saw l.observer);
    }
