use Rattle.duty.proofs.WorkedShown.{worked}
use Rattle.duty.proofs.laws.worked_logs.Goals as goal

pub returns : goal.returns
returns c = worked
