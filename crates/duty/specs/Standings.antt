-- When a standing is that of a log. Assumes nothing.
use Rattle.std.specs.Prelude.{◌≡◌, List, [], Ok, Err, vec_items, Result}
use Rattle.feed.specs.declared.lines.Line.{Line}
use Rattle.book.specs.Rules.{Rule}
use Rattle.book.specs.Trees.{pure_rules}
use Rattle.book.specs.declared.book.Book.{Book}
use Rattle.duty.specs.Verdicts.{verdicts}
use Rattle.duty.specs.Sheet.{book_sheet, Fits}
use Rattle.duty.specs.Drafts.{Drafted}
use Rattle.duty.specs.declared.entries.Entry.{Entry}
use Rattle.duty.specs.declared.findings.Findings.{Findings}
use Rattle.duty.specs.declared.standings.Standing.{Standing}
use Rattle.duty.specs.declared.standings.SheetFull.{SheetFull}
use Rattle.duty.specs.declared.verdicts.Verdict.{Verdict}

abbrev pub book_rules : Book → List Rule
book_rules b = pure_rules (vec_items b.rules)

abbrev pub rules_of : Standing → List Rule
rules_of s = book_rules s.state.book

abbrev pub verdicts_of : Standing → List Verdict
verdicts_of s = vec_items s.state.findings.verdicts

abbrev pub sheet_of : Standing → List Entry
sheet_of s = vec_items s.state.findings.sheet.entries

-- nothing found so far
pub record Blank (f : Findings) : Type 0 where
  pub none : vec_items f.verdicts ≡ []
  pub empty : Drafted f.sheet []

-- its verdicts and its sheet are those of the log
pub record Stands (s : Standing) (log : List Line) : Type 0 where
  pub judged : verdicts_of s ≡ verdicts (rules_of s) log
  pub listed : sheet_of s ≡ book_sheet (rules_of s) log

-- it is that of the book, and of the empty log
pub record Opened (b : Book) (s : Standing) : Type 0 where
  pub rules : rules_of s ≡ book_rules b
  pub stands : Stands s []

-- the line that the log ends with is taken exactly when the sheet of the log has its places
abbrev pub Taken : Result (Unit {0}) SheetFull → Standing → List Line → Type 0
Taken (Ok x) s log = Stands s log × Fits (book_sheet (rules_of s) log)
Taken (Err e) s log = Fits (book_sheet (rules_of s) log) → ⊥

-- a refused line changes nothing
abbrev pub Kept : Result (Unit {0}) SheetFull → Standing → Standing → Type 0
Kept (Ok x) s s' = Unit {0}
Kept (Err e) s s' = (verdicts_of s' ≡ verdicts_of s) × (sheet_of s' ≡ sheet_of s)
