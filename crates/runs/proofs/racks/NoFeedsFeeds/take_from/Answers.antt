use Rattle.runs.proofs.AtFeeds.{at_none}
use Rattle.runs.proofs.racks.NoFeedsFeeds.take_from.Goals as goal

pub returns-clause-taken : goal.returns-clause-taken
returns-clause-taken c = λ rs log h. at_none rs c.args.count log c.args._i _ _ _ (c.take.ensures.taken rs log h)
