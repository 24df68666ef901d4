use Rattle.auditor.proofs.Plain.{take_law}
use Rattle.auditor.proofs.laws.one_way_to_take.Goals as goal

pub returns : goal.returns
returns c = take_law
