use Rattle.pages.proofs.RowsMade.{Writing}
use Rattle.pages.proofs.rows.write_rows.Given as goal

abbrev pub invariant-loop-i : goal.invariant-loop-i
invariant-loop-i g l = Writing g.R.Row.bytes (g.R.Row.rule l.verdicts) g.R.Row.WIDTH l.initial.out l.rows l.i l.rule l.out
