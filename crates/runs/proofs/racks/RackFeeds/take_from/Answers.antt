use Rattle.runs.proofs.AtFeeds.{at_first_lem, at_rest}
use Rattle.runs.proofs.racks.RackFeeds.take_from.Goals as goal

pub returns-then-i-eq0-clause-taken : goal.returns-then-i-eq0-clause-taken
returns-then-i-eq0-clause-taken g c =
    λ rs log h. at_first_lem rs c.args.count log c.args.i _ _ _ _ _ c.if-i-eq0.true (c.take.ensures.taken rs log h)

pub returns-else-i-eq0-clause-taken : goal.returns-else-i-eq0-clause-taken
returns-else-i-eq0-clause-taken g c =
    λ rs log h. at_rest rs c.args.count log c.args.i _ _ _ _ _ c.if-i-eq0.false (c.take_from.ensures.taken rs log h)
