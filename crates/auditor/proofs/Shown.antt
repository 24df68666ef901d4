-- An auditor that holds a log shows the pages of the log.
use Rattle.std.proofs.Common.{◌≡◌, List, ap, ◌∙◌}
use Rattle.feed.specs.declared.lines.Line.{Line}
use Rattle.book.specs.Rules.{Rule}
use Rattle.duty.specs.Sheet.{book_sheet}
use Rattle.duty.specs.Standings.{verdicts_of, sheet_of}
use Rattle.duty.specs.Verdicts.{verdicts}
use Rattle.pages.specs.Pages.{verdict_rows, verdict_page, sheet_page}
use Rattle.pages.proofs.PagesShown.{shows_sheet}
use Rattle.auditor.specs.Holds.{Holds}
use Rattle.auditor.specs.Showing.{verdicts_shown, sheet_shown}
use Rattle.auditor.specs.declared.auditors.Auditor.{Auditor}

module _ (rs : List Rule) (log : List Line) (a : Auditor) (h : Holds rs log a) where
  pub judged : verdicts_of a.standing ≡ verdicts rs log
  judged = h.held.stands.judged ∙ ap (λ x. verdicts x log) h.book

  pub listed : sheet_of a.standing ≡ book_sheet rs log
  listed = h.held.stands.listed ∙ ap (λ x. book_sheet x log) h.book

  pub shows_verdicts : verdicts_shown a ≡ verdict_page rs log
  shows_verdicts = ap (verdict_rows 1) judged

  pub shows_sheets : sheet_shown a ≡ sheet_page rs log
  shows_sheets = shows_sheet (verdicts_of a.standing) (sheet_of a.standing) rs log judged listed
