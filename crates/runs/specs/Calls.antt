-- The plain account of one auditor's calls. Assumes nothing.
use Rattle.std.specs.Prelude.{ℕ, List, [], ◌∷◌, ◌++◌, length, Some, Option}
use Rattle.feed.specs.Waiting.{later}
use Rattle.feed.specs.declared.faults.Item.{Item}
use Rattle.feed.specs.declared.lines.Line.{Line}
use Rattle.book.specs.Rules.{Rule}
use Rattle.pages.specs.Pages.{verdict_page, sheet_page, written}
use Rattle.auditor.specs.Account.{Drawn, takes, skipping}
use Rattle.auditor.specs.Showing.{page_answer}
use Rattle.runs.specs.Lists.{waiting_at, put_at}
use Rattle.runs.specs.declared.calls.Answer.{Answer}
use Rattle.runs.specs.declared.calls.Answer.TheVariants.{Took, Skipped, Paged}
use Rattle.runs.specs.declared.calls.Call.{Call}
use Rattle.runs.specs.declared.calls.Call.TheVariants.{Take, Skip, VerdictPage, SheetPage}

-- the book, the log, empty at first, and what waits in each feed
pub record Account : Type 0 where
  pub book : List Rule
  pub log : List Line
  pub lists : List (List Item)

abbrev pub account : List Rule → List Line → List (List Item) → Account
account rs log ws = record { book = rs; log = log; lists = ws }

-- a call with the buffer that it is given
pub record Asked : Type 0 where
  pub call : Call
  pub buffer : List ℕ

-- its answer, which only a call that has not been made lacks, and the buffer then
pub record Said : Type 0 where
  pub answer : Option Answer
  pub buffer : List ℕ

abbrev pub saying : Answer → List ℕ → Said
saying a b = record { answer = Some a; buffer = b }

-- how a take at feed i goes
abbrev pub takes_at : Account → ℕ → ℕ → Drawn
takes_at s i c = takes s.book c s.log (waiting_at s.lists i)

-- The account after a call: a take moves lines from the front of its feed's list to the log's end, a skip removes the
-- first item of its feed's list, a page call changes nothing.
abbrev pub next : Account → Call → Account
next s (Take i c) = account s.book (s.log ++ (takes_at s i c).lines) (put_at s.lists i (takes_at s i c).left)
next s (Skip i) = account s.book s.log (put_at s.lists i (later (waiting_at s.lists i)))
next s VerdictPage = s
next s SheetPage = s

-- What is answered to a call, and the buffer then: a take answers how many lines it took and why it stopped, and a page
-- call writes its page of the log.
abbrev pub reply : Account → Call → List ℕ → Said
reply s (Take i c) b =
    saying (Took (record { lines = length (takes_at s i c).lines; stop = (takes_at s i c).stop })) b
reply s (Skip i) b = saying (Skipped (skipping (waiting_at s.lists i))) b
reply s VerdictPage b = saying (Paged (page_answer (verdict_page s.book s.log) b)) (written (verdict_page s.book s.log) b)
reply s SheetPage b = saying (Paged (page_answer (sheet_page s.book s.log) b)) (written (sheet_page s.book s.log) b)

-- the account after all calls, and what is answered to each
abbrev pub finally : Account → List Asked → Account
finally s [] = s
finally s (q ∷ qs) = finally (next s q.call) qs

abbrev pub replies : Account → List Asked → List Said
replies s [] = []
replies s (q ∷ qs) = reply s q.call q.buffer ∷ replies (next s q.call) qs
