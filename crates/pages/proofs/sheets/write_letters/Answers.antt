use Rattle.std.proofs.Common.{◌≡◌, ◌+◌, ◌-◌, ◌*◌, ◌++◌, get_or, None, sym, ap, ◌∙◌, add-one, arith}
use Rattle.pages.specs.Columns.{cell}
use Rattle.pages.specs.Pages.{letter_cells}
use Rattle.pages.specs.Widths.{length-cell}
use Rattle.pages.proofs.Fills.{fills_none, fills_with, fills_as}
use Rattle.pages.proofs.sheets.write_letters.Goals as goal

pub loop-i-init : goal.loop-i-init
unfolding letter_cells
loop-i-init c = fills_none c.args.out.now

pub loop-i-preserved : goal.loop-i-preserved
unfolding letter_cells
loop-i-preserved c =
    let i = c.loop-i.i in
    let e = c.args.out.now in
    let f = c.args.letters.now in
    let x = get_or f i None in
    let k = (8 * i + 8) - 8 * i in
    let wide : k ≡ 8 = omega arith in
    fills_as e _ _ _ (8 * i + k) (8 * (i + 1)) (ap (λ w. letter_cells i f ++ cell w x) wide ∙ ap (λ m. letter_cells m f) (sym (add-one i))) (omega arith)
    (fills_with (λ w. cell w x) (λ w. length-cell w x) e (letter_cells i f) c.loop-i.out c.write_cell.new.out (8 * i) k c.loop-i.invariant (omega arith) c.write_cell.ensures)
