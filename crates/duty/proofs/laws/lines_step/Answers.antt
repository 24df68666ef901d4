use Rattle.duty.proofs.StepsShown.{steps_right}
use Rattle.duty.proofs.laws.lines_step.Goals as goal

pub returns : goal.returns
returns c = steps_right
