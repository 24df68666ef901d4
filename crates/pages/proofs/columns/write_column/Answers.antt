use Rattle.std.proofs.Common.{length, ◌∙◌}
use Rattle.pages.proofs.Aligns.{aligned-column}
use Rattle.pages.proofs.columns.write_column.Goals as goal

pub returns : goal.returns
returns c = c.write_aligned.ensures ∙ aligned-column (length c.args.out.now) c.args.number c.ranges.number.fits
