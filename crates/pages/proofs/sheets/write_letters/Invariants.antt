use Rattle.std.proofs.Common.{◌*◌}
use Rattle.pages.specs.Pages.{letter_cells}
use Rattle.pages.proofs.Fills.{Filled}
use Rattle.pages.proofs.sheets.write_letters.Given as goal

abbrev pub invariant-loop-i : goal.invariant-loop-i
invariant-loop-i l = Filled l.initial.out (8 * l.i) (letter_cells l.i l.letters) l.out
