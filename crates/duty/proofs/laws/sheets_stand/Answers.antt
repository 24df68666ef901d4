use Rattle.duty.proofs.FactsShown.{sheet_facts}
use Rattle.duty.proofs.laws.sheets_stand.Goals as goal

pub returns : goal.returns
returns c = sheet_facts
