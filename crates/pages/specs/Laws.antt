-- What holds of columns and pages. Assumes nothing.
use Rattle.std.specs.Prelude.{◌≡◌, ℕ, suc, ◌-◌, ◌*◌, ◌<◌, ◌≤◌, true, List, [], ◌∷◌, ◌++◌, length, take, drop, Some, None, codes, decimal, slice_index_or}
use Rattle.feed.specs.declared.lines.Line.{Line}
use Rattle.book.specs.Rules.{Rule}
use Rattle.duty.specs.Sheet.{entry, book_sheet}
use Rattle.duty.specs.declared.verdicts.Verdict.{Verdict}
use Rattle.duty.specs.declared.verdicts.Verdict.TheVariants.{Pending, Satisfied, Breached}
use Rattle.pages.specs.Columns.{blanks, column}
use Rattle.pages.specs.Pages.{verdict_row, verdict_rows, entry_row, sheet_page}

pub record ColumnLaws : Type 0 where
  -- a column of width w has w bytes
  pub width : (w n : ℕ) → length (column w n) ≡ w
  -- a number that fits stands behind blanks, right-aligned
  pub fits : (w n : ℕ) → length (decimal n) ≤ w → column w n ≡ blanks (w - length (decimal n)) ++ decimal n

pub record VerdictPageLaws : Type 0 where
  -- a row has 15 bytes
  pub size : (n : ℕ) (vs : List Verdict) → length (verdict_rows n vs) ≡ 15 * length vs
  -- row i, counted from 0, is that of rule i + 1
  pub row : (vs : List Verdict) (i : ℕ) → i < length vs → take 15 (drop (15 * i) (verdict_rows 1 vs)) ≡ verdict_row (suc i) (slice_index_or vs i Pending)

-- a row has 78 bytes
abbrev pub SheetPageSize : Type 0
SheetPageSize = (rs : List Rule) (log : List Line) → length (sheet_page rs log) ≡ 78 * length (book_sheet rs log)

-- rows written out
pub record WorkedRows : Type 0 where
  pub pending : verdict_row 3 Pending ≡ codes "   3 0        \n"
  pub satisfied : verdict_row 256 (Satisfied 1) ≡ codes " 256 1       1\n"
  pub breached : verdict_row 12 (Breached 99999999) ≡ codes "  12 299999999\n"
  pub listed : entry_row 7 (entry 2 1 true (Some 5 ∷ None ∷ None ∷ None ∷ None ∷ None ∷ None ∷ Some 10203040 ∷ [])) ≡ codes "   7   2  1 1       5                                                10203040\n"
