use Rattle.duty.proofs.Finals.{finality}
use Rattle.duty.proofs.laws.verdicts_stay.Goals as goal

pub returns : goal.returns
returns c = finality
