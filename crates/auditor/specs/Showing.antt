-- What an auditor shows. Assumes nothing.
use Rattle.std.specs.Prelude.{ℕ, List, Some, None, Ok, Err, Option, Result}
use Rattle.duty.specs.Standings.{verdicts_of, sheet_of}
use Rattle.pages.specs.Pages.{verdict_rows, sheet_rows, paging}
use Rattle.auditor.specs.declared.answers.Refusal.{Refusal}
use Rattle.auditor.specs.declared.answers.Refusal.TheVariants.{ShortBuffer}
use Rattle.auditor.specs.declared.auditors.Auditor.{Auditor}

-- what a verdict page call would write now, and a sheet page call
abbrev pub verdicts_shown : Auditor → List ℕ
verdicts_shown a = verdict_rows 1 (verdicts_of a.standing)

abbrev pub sheet_shown : Auditor → List ℕ
sheet_shown a = sheet_rows (verdicts_of a.standing) (sheet_of a.standing)

abbrev pub or_short : Option ℕ → Result ℕ Refusal
or_short None = Err ShortBuffer
or_short (Some n) = Ok n

-- a page call answers the page's length, or is refused where the buffer is shorter
abbrev pub page_answer : List ℕ → List ℕ → Result ℕ Refusal
page_answer page buffer = or_short (paging page buffer)
