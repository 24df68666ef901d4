use Rattle.duty.proofs.Joins.{join_laws}
use Rattle.duty.proofs.laws.joins_regroup.Goals as goal

pub returns : goal.returns
returns c = join_laws
