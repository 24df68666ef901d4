use Rattle.std.proofs.Common.{◌≡◌, [], ◌∷◌, ◌++◌, ◌∙◌, append_assoc, arith}
use Rattle.duty.specs.Verdicts.{verdict_numbers}
use Rattle.pages.specs.Columns.{column, cell}
use Rattle.pages.specs.Pages.{deciding_line, verdict_row}
use Rattle.pages.specs.Widths.{length-column, length-cell}
use Rattle.pages.proofs.Fills.{fills_none, fills_with, fills_byte, fills_all}
use Rattle.pages.proofs.verdicts.VerdictRow.write.Goals as goal

pub returns : goal.returns
unfolding verdict_row
returns c =
    let e = c.args.row.now in
    let n = c.args.number in
    let k = c.from.result in
    let x = c.deciding_line.result in
    let a = fills_with (λ w. column w n) (λ w. length-column w n) e _ e c.write_column.new.out 0 4 (fills_none e) (omega arith) c.write_column.ensures in
    let b = fills_with (λ w. column w k) (λ w. length-column w k) e _ _ c.write_column-2.new.out 4 2 a (omega arith) c.write_column-2.ensures in
    let d = fills_with (λ w. cell w x) (λ w. length-cell w x) e _ _ c.write_cell.new.out 6 8 b (omega arith) c.write_cell.ensures in
    let z = fills_byte e _ _ 14 10 d (omega arith) in
    let number : k ≡ (verdict_numbers c.args.self.now).0 = cc in
    let line : x ≡ deciding_line c.args.self.now = c.deciding_line.ensures in
    fills_all e _ _ 15 z (omega arith) ∙ ((λ i. ((column 4 n ++ column 2 (number i)) ++ cell 8 (line i)) ++ (10 ∷ [])) ∙ simp append_assoc)
