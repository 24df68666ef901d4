use Rattle.pages.specs.Widths.{length-column}
use Rattle.pages.proofs.Aligns.{column_fits}
use Rattle.pages.proofs.laws.columns_align.Goals as goal

pub returns : goal.returns
returns c = record { width = length-column; fits = column_fits }
