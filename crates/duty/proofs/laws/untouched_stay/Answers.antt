use Rattle.duty.proofs.Unchanged.{verdict-same, sheet-same}
use Rattle.duty.proofs.laws.untouched_stay.Goals as goal

pub returns : goal.returns
returns c = record { verdict = verdict-same; sheets = sheet-same }
