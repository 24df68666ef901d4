-- How many bytes a column and a row have. Assumes nothing.
use Rattle.std.specs.Prelude.{◌≡◌, ℕ, zero, suc, ◌*◌, length, slice_index_or, Some, None, Option, refl}
use Rattle.std.proofs.Common.{◌∙◌, arith, length-append, length-drop}
use lib.ListN.{length-replicate}
use Rattle.duty.specs.Matching.{Bindings}
use Rattle.duty.specs.declared.entries.Entry.{Entry}
use Rattle.duty.specs.declared.verdicts.Verdict.{Verdict}
use Rattle.pages.specs.Columns.{column, cell}
use Rattle.pages.specs.Pages.{verdict_row, letter_cells, entry_row}

pub length-column : (w n : ℕ) → length (column w n) ≡ w
unfolding column
length-column w n = simp (length-drop, length-append, length-replicate) (omega arith)

pub length-cell : (w : ℕ) (x : Option ℕ) → length (cell w x) ≡ w
length-cell w None = length-replicate w 32
length-cell w (Some n) = length-column w n

pub length-verdict_row : (n : ℕ) (v : Verdict) → length (verdict_row n v) ≡ 15
unfolding verdict_row
length-verdict_row n v = simp (length-append, length-column, length-cell) (omega arith)

pub length-letter_cells : (k : ℕ) (f : Bindings) → length (letter_cells k f) ≡ 8 * k
unfolding letter_cells
length-letter_cells zero f = refl
length-letter_cells (suc k) f =
    length-append (letter_cells k f) (cell 8 (slice_index_or f k None)) ∙ omega (arith, length-letter_cells k f, length-cell 8 (slice_index_or f k None))

pub length-entry_row : (n : ℕ) (e : Entry) → length (entry_row n e) ≡ 78
unfolding entry_row
length-entry_row n e = simp (length-append, length-column, length-letter_cells) (omega arith)
