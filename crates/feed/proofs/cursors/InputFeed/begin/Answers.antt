use Rattle.std.proofs.Common.{length, arith}
use Rattle.feed.proofs.Cuts.{cut-pieces, items-count}
use Rattle.feed.proofs.cursors.InputFeed.begin.Goals as goal

pub returns-clause-pieces : goal.returns-clause-pieces
returns-clause-pieces g c =
    let input = c.args.input.now in
    cut-pieces g.E.Encoding.width g.met.E.Encoding.some (length input) input (omega arith)

pub returns-clause-count : goal.returns-clause-count
returns-clause-count g c =
    items-count g.E.Encoding.reads g.E.Encoding.width c.args.station c.args.first c.args.input.now g.met.E.Encoding.some
