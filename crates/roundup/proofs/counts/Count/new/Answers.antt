use Rattle.roundup.specs.Sums.{same_number}
use Rattle.roundup.specs.Tallies.{count_of}
use Rattle.roundup.proofs.counts.Count.new.Goals as goal

pub returns : goal.returns
unfolding count_of
returns c = same_number _ _ c.min.ensures
