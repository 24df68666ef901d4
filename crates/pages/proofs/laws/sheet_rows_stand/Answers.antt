use Rattle.pages.proofs.PagesShown.{length-sheet_page}
use Rattle.pages.proofs.laws.sheet_rows_stand.Goals as goal

pub returns : goal.returns
returns c = length-sheet_page
