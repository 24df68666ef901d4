use Rattle.feed.proofs.Merges.{merge}
use Rattle.feed.proofs.joins.Joined.new.Goals as goal

pub returns-clause-merge : goal.returns-clause-merge
returns-clause-merge g c = merge _ _
