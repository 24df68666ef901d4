use Rattle.pages.proofs.PagesShown.{length-verdict_rows, verdict-row}
use Rattle.pages.proofs.laws.verdict_rows_stand.Goals as goal

pub returns : goal.returns
returns c = record { size = length-verdict_rows; row = verdict-row }
