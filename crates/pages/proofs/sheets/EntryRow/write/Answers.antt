use Rattle.std.proofs.Common.{◌≡◌, [], ◌∷◌, ◌++◌, length, ap, ◌∙◌, append_assoc, arith}
use Rattle.duty.specs.Sheet.{mark_number}
use Rattle.pages.specs.Columns.{column}
use Rattle.pages.specs.Pages.{letter_cells, entry_row}
use Rattle.pages.specs.Widths.{length-column, length-letter_cells}
use Rattle.pages.proofs.Fills.{fills_none, fills_with, fills_on, fills_byte, fills_all}
use Rattle.pages.proofs.RowsShown.{marked}
use Rattle.pages.proofs.sheets.EntryRow.write.Goals as goal

pub returns : goal.returns
unfolding entry_row
returns c =
    let row = c.args.row.now in
    let e = c.args.self.now in
    let n = c.args.number in
    let j = c.from.result in
    let k = c.from-2.result in
    let m = c.from-3.result in
    let ls = c.write_letters.new.out in
    let a = fills_with (λ w. column w n) (λ w. length-column w n) row _ row c.write_column.new.out 0 4 (fills_none row) (omega arith) c.write_column.ensures in
    let b = fills_with (λ w. column w j) (λ w. length-column w j) row _ _ c.write_column-2.new.out 4 4 a (omega arith) c.write_column-2.ensures in
    let d = fills_with (λ w. column w k) (λ w. length-column w k) row _ _ c.write_column-3.new.out 8 3 b (omega arith) c.write_column-3.ensures in
    let f = fills_with (λ w. column w m) (λ w. length-column w m) row _ _ c.write_column-4.new.out 11 2 d (omega arith) c.write_column-4.ensures in
    let g = fills_on row _ _ ls 13 64 f (ap length c.write_letters.ensures ∙ length-letter_cells 8 e.letters) in
    let z = fills_byte row _ _ 77 10 g (omega arith) in
    let node : j ≡ e.node = c.from.ensures in
    let level : k ≡ e.level = c.from-2.ensures in
    let mark : m ≡ mark_number e.mark = c.from-3.ensures ∙ marked e.mark in
    let letters : ls ≡ letter_cells 8 e.letters = c.write_letters.ensures in
    fills_all row _ _ 78 z (omega arith)
    ∙ ((λ i. ((((column 4 n ++ column 4 (node i)) ++ column 3 (level i)) ++ column 2 (mark i)) ++ letters i) ++ (10 ∷ [])) ∙ simp append_assoc)
