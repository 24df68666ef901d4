use Rattle.std.proofs.Common.{refl}
use Rattle.std.specs.Fmt.{digits}
use Rattle.pages.specs.Columns.{column}
use Rattle.pages.specs.Pages.{verdict_row, letter_cells, entry_row}
use Rattle.pages.proofs.laws.worked_rows.Goals as goal

pub returns : goal.returns
unfolding digits column verdict_row letter_cells entry_row
returns c = record { pending = refl; satisfied = refl; breached = refl; listed = refl }
