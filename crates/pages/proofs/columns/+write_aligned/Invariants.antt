use Rattle.std.proofs.Common.{length}
use Rattle.pages.proofs.columns.+write_aligned.Given as goal

abbrev pub decreases-write_aligned : goal.decreases-write_aligned
decreases-write_aligned l = length l.out.now
