use Rattle.std.proofs.Common.{vec_items, arith}
use lib.ListN.{length-map}
use Rattle.book.specs.Trees.{pure_rule}
use Rattle.duty.proofs.standings.Standing.verdicts.Goals as goal

pub returns-clause-len : goal.returns-clause-len
returns-clause-len c = omega (arith, c.deref.ensures.len, c.args.self.now.state.judged, c.args.self.now.state.book.rules.ok.0, length-map (vec_items c.args.self.now.state.book.rules) pure_rule)
