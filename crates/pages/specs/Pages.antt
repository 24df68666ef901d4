-- The verdict page, the sheet page, and what writing a page does to a buffer. Assumes nothing.
use Rattle.std.specs.Prelude.{◌≡◌, ℕ, zero, suc, if◌then◌else◌, List, [], ◌∷◌, ◌++◌, length, drop, Some, None, Option, ◌==◌, nat_lt, slice_index_or}
use Rattle.feed.specs.declared.lines.Line.{Line}
use Rattle.book.specs.Rules.{Rule}
use Rattle.duty.specs.Matching.{Bindings}
use Rattle.duty.specs.Sheet.{mark_number, rule_sheet, book_sheet}
use Rattle.duty.specs.Verdicts.{verdict_numbers, verdicts}
use Rattle.duty.specs.declared.entries.Entry.{Entry}
use Rattle.duty.specs.declared.verdicts.Verdict.{Verdict}
use Rattle.duty.specs.declared.verdicts.Verdict.TheVariants.{Pending, Satisfied, Breached}
use Rattle.pages.specs.Columns.{column, cell}

-- the line that decided
abbrev pub deciding_line : Verdict → Option ℕ
deciding_line Pending = None
deciding_line (Satisfied j) = Some j
deciding_line (Breached j) = Some j

-- rule number in width 4, verdict in width 2, deciding line in width 8, line feed
unfoldable pub verdict_row : ℕ → Verdict → List ℕ
verdict_row n v = column 4 n ++ (column 2 (verdict_numbers v).0 ++ (cell 8 (deciding_line v) ++ (10 ∷ [])))

-- a row for each verdict, the rules being numbered from n on
abbrev pub verdict_rows : ℕ → List Verdict → List ℕ
verdict_rows n [] = []
verdict_rows n (v ∷ vs) = verdict_row n v ++ verdict_rows (suc n) vs

-- rules are numbered from 1
abbrev pub verdict_page : List Rule → List Line → List ℕ
verdict_page rs log = verdict_rows 1 (verdicts rs log)

-- the first k letters in width 8 each, blank where a letter is not bound
unfoldable pub letter_cells : ℕ → Bindings → List ℕ
letter_cells zero f = []
letter_cells (suc k) f = letter_cells k f ++ cell 8 (slice_index_or f k None)

-- rule number in width 4, node in width 4, level in width 3, mark in width 2, letters A to H in width 8 each, line feed
unfoldable pub entry_row : ℕ → Entry → List ℕ
entry_row n e =
    column 4 n ++ (column 4 e.node ++ (column 3 e.level ++ (column 2 (mark_number e.mark) ++ (letter_cells 8 e.letters ++ (10 ∷ [])))))

-- a row for each entry of rule n
abbrev pub entry_rows : ℕ → List Entry → List ℕ
entry_rows n [] = []
entry_rows n (e ∷ es) = entry_row n e ++ entry_rows n es

-- the rows of each rule's entries in order, the rules being numbered from n on
abbrev pub sheet_from : ℕ → List Rule → List Line → List ℕ
sheet_from n [] log = []
sheet_from n (r ∷ rs) log = entry_rows n (rule_sheet r log) ++ sheet_from (suc n) rs log

abbrev pub sheet_page : List Rule → List Line → List ℕ
sheet_page rs log = sheet_from 1 rs log

-- the first pending rule, the rules being numbered from k on; n where none is pending
abbrev pub first_pending : ℕ → ℕ → List Verdict → ℕ
first_pending n k [] = n
first_pending n k (Pending ∷ vs) = k
first_pending n k (Satisfied j ∷ vs) = first_pending n (suc k) vs
first_pending n k (Breached j ∷ vs) = first_pending n (suc k) vs

-- the next pending rule behind rule n; n itself where none is left
unfoldable pub next_pending : List Verdict → ℕ → ℕ
next_pending vs n = first_pending n (suc n) (drop n vs)

-- the rule of an entry that follows those of rule n: a pending rule has one entry at level 0, its first
abbrev pub rule_of : List Verdict → ℕ → Entry → ℕ
rule_of vs n e = if e.level == 0 then next_pending vs n else n

-- a row for each entry, where those before them are of rule n
abbrev pub rows_after : List Verdict → ℕ → List Entry → List ℕ
rows_after vs n [] = []
rows_after vs n (e ∷ es) = entry_row (rule_of vs n e) e ++ rows_after vs (rule_of vs n e) es

-- the rows of a sheet, whose rules are told from the verdicts
abbrev pub sheet_rows : List Verdict → List Entry → List ℕ
sheet_rows vs es = rows_after vs 0 es

-- of the verdicts and the open entries of a log, they are the sheet page
abbrev pub ShowsSheet : List Verdict → List Entry → Type 0
ShowsSheet vs es = (rs : List Rule) (log : List Line) → vs ≡ verdicts rs log → es ≡ book_sheet rs log → sheet_rows vs es ≡ sheet_page rs log

-- what writing a page into a buffer answers: its length, or none where the buffer is shorter
abbrev pub paging : List ℕ → List ℕ → Option ℕ
paging page buffer = if nat_lt (length buffer) (length page) then None else Some (length page)

-- the buffer then: the page and the bytes beyond it as they were, or every byte as it was where it is shorter
abbrev pub written : List ℕ → List ℕ → List ℕ
written page buffer = if nat_lt (length buffer) (length page) then buffer else page ++ drop (length page) buffer
