-- The law over runs: two auditors that were opened on one book, and the turns that were made at them. Assumes nothing.
use Rattle.std.specs.Prelude.{◌≡◌, ℕ, suc, ◌*◌, ◌<◌, if◌then◌else◌, ◌⊎◌, List, [], ◌∷◌, ◌++◌, map, length, take, drop, Some, None, Ok, ◌==◌, slice_index_or}
use Rattle.feed.specs.declared.faults.Item.{Item}
use Rattle.feed.specs.declared.faults.Item.TheVariants.{Sound}
use Rattle.feed.specs.declared.lines.Line.{Line}
use Rattle.book.specs.Rules.{Rule}
use Rattle.duty.specs.Final.{DecidedAt}
use Rattle.duty.specs.Standings.{verdicts_of, sheet_of}
use Rattle.duty.specs.Verdicts.{verdict}
use Rattle.duty.specs.declared.verdicts.Verdict.TheVariants.{Pending}
use Rattle.pages.specs.Pages.{verdict_row, verdict_page, sheet_page}
use Rattle.auditor.specs.Account.{TakeLaw}
use Rattle.auditor.specs.Holds.{Holds}
use Rattle.auditor.specs.Showing.{verdicts_shown, sheet_shown}
use Rattle.auditor.specs.declared.auditors.Auditor.{Auditor}
use Rattle.runs.specs.Calls.{Account, account, Asked, Said, takes_at, next, finally, replies}
use Rattle.runs.specs.Lists.{waiting_at}
use Rattle.runs.specs.Turns.{turns_of, asked, said, called, Both, side, after_turns, Moment, moments}
use Rattle.runs.specs.declared.calls.Answer.TheVariants.{Paged}
use Rattle.runs.specs.declared.calls.Call.{Call}
use Rattle.runs.specs.declared.calls.Call.TheVariants.{Take, Skip, VerdictPage, SheetPage}
use Rattle.runs.specs.declared.calls.Side.{Side}
use Rattle.runs.specs.declared.calls.Side.TheVariants.{First, Second}
use Rattle.runs.specs.declared.calls.Turn.{Turn}
use Rattle.runs.specs.declared.pair.Pair.{Pair}

-- What happened at one auditor: what waited in its feeds at first, its calls with their buffers, the answers with the
-- buffers then, the auditor at the end, and what still waits.
pub record Run : Type 0 where
  pub before : List (List Item)
  pub calls : List Asked
  pub answers : List Said
  pub auditor : Auditor
  pub still : List (List Item)

-- the plain account of the book rs before any call, after the first n, and after all
abbrev pub opening : List Rule → Run → Account
opening rs r = account rs [] r.before

abbrev pub after : List Rule → ℕ → Run → Account
after rs n r = finally (opening rs r) (take n r.calls)

abbrev pub closing : List Rule → Run → Account
closing rs r = finally (opening rs r) r.calls

-- Every answer and every whole buffer is the account's; so are the waiting lists at the end, and the log that the auditor holds.
pub record AsAccount (rs : List Rule) (r : Run) : Type 0 where
  pub answers : r.answers ≡ replies (opening rs r) r.calls
  pub waiting : r.still ≡ (closing rs r).lists
  pub holds : Holds rs (closing rs r).log r.auditor

abbrev pub unasked : Asked
unasked = record { call = VerdictPage; buffer = [] }

abbrev pub unsaid : Said
unsaid = record { answer = None; buffer = [] }

-- the call after the first n is a page call of this kind that was granted, and it wrote p
pub record Wrote (kind : Call) (r : Run) (n : ℕ) (p : List ℕ) : Type 0 where
  pub within : n < length r.calls
  pub asks : (slice_index_or r.calls n unasked).call ≡ kind
  pub long : ℕ
  pub granted : (slice_index_or r.answers n unsaid).answer ≡ Some (Paged (Ok long))
  pub bytes : p ≡ take long (slice_index_or r.answers n unsaid).buffer

-- After n calls the auditor shows the page p: its next call wrote p; or all calls are made, and p is what it would write now; or p
-- is the page by the account, which the observer was shown then (`seen` below).
abbrev pub VerdictsShown : List Rule → Run → ℕ → List ℕ → Type 0
VerdictsShown rs r n p =
    Wrote VerdictPage r n p ⊎ (((n ≡ length r.calls) × (p ≡ verdicts_shown r.auditor)) ⊎ (p ≡ verdict_page rs (after rs n r).log))

abbrev pub SheetShown : List Rule → Run → ℕ → List ℕ → Type 0
SheetShown rs r n p =
    Wrote SheetPage r n p ⊎ (((n ≡ length r.calls) × (p ≡ sheet_shown r.auditor)) ⊎ (p ≡ sheet_page rs (after rs n r).log))

-- row i of a verdict page, counted from 0
abbrev pub row : ℕ → List ℕ → List ℕ
row i p = take 15 (drop (15 * i) p)

abbrev pub Begins : List Line → List Line → Type 0
Begins start log = (rest : List Line) × (log ≡ start ++ rest)

-- A rule that the definition decides at line j of any log is shown so by the auditor whenever its own log begins with those j lines,
-- and is shown pending whenever its own log is a shorter beginning.
pub record ShownFinal (i : ℕ) (rule : Rule) (log : List Line) (j : ℕ) (own : List Line) (p : List ℕ) : Type 0 where
  pub stays : Begins (take j log) own → row i p ≡ verdict_row (suc i) (verdict rule log)
  pub pends : (m : ℕ) → m < j → own ≡ take m log → row i p ≡ verdict_row (suc i) Pending

abbrev pub VerdictsFinal : List Rule → Run → Type 0
VerdictsFinal rs r =
    (before : List Rule) (rule : Rule) (behind : List Rule) → rs ≡ before ++ rule ∷ behind
    → (log : List Line) (j : ℕ) → DecidedAt (verdict rule log) j
    → (n : ℕ) (p : List ℕ) → VerdictsShown rs r n p → ShownFinal (length before) rule log j (after rs n r).log p

-- Equal logs give equal pages, byte for byte, and equal verdicts and sheets.
pub record Alike (rs : List Rule) (r r' : Run) : Type 0 where
  pub verdict_pages : (m n : ℕ) (p q : List ℕ) → (after rs m r).log ≡ (after rs n r').log → VerdictsShown rs r m p → VerdictsShown rs r' n q → p ≡ q
  pub sheet_pages : (m n : ℕ) (p q : List ℕ) → (after rs m r).log ≡ (after rs n r').log → SheetShown rs r m p → SheetShown rs r' n q → p ≡ q
  pub verdicts : (closing rs r).log ≡ (closing rs r').log → verdicts_of r.auditor.standing ≡ verdicts_of r'.auditor.standing
  pub sheets : (closing rs r).log ≡ (closing rs r').log → sheet_of r.auditor.standing ≡ sheet_of r'.auditor.standing

-- what a call draws from feed i: the lines that it takes to the log's end, or the item that it skips
abbrev pub drawn : ℕ → Account → Call → List Item
drawn i s (Take j c) = if j == i then map Sound (takes_at s j c).lines else []
drawn i s (Skip j) = if j == i then take 1 (waiting_at s.lists j) else []
drawn i s VerdictPage = []
drawn i s SheetPage = []

abbrev pub all_drawn : ℕ → Account → List Asked → List Item
all_drawn i s [] = []
all_drawn i s (q ∷ qs) = drawn i s q.call ++ all_drawn i (next s q.call) qs

-- What waited in a feed at first is what was taken and skipped from it, in order, and then what still waits: after each call, when the
-- lists are those of the account, and at the end.
pub record Conserved (rs : List Rule) (r : Run) : Type 0 where
  pub each : (n i : ℕ) → waiting_at r.before i ≡ all_drawn i (opening rs r) (take n r.calls) ++ waiting_at (after rs n r).lists i
  pub end : (i : ℕ) → waiting_at r.before i ≡ all_drawn i (opening rs r) r.calls ++ waiting_at r.still i

-- what holds of one run
pub record Lawful (rs : List Rule) (r : Run) : Type 0 where
  pub account : AsAccount rs r
  pub final : VerdictsFinal rs r
  pub alike : Alike rs r r
  pub conserved : Conserved rs r

-- what waited in the feeds of both auditors, the turns, and what the observer may have been shown: before, and then
pub record Ends : Type 1 where
  pub left : List (List Item)
  pub left' : List (List Item)
  pub right : List (List Item)
  pub right' : List (List Item)
  pub turns : List Turn
  pub turns' : List Turn
  pub saw : List Moment → Type 0
  pub saw' : List Moment → Type 0

-- the run at each auditor: its own turns alone, on its own feeds
abbrev pub run_at : Ends → Pair → Side → Run
run_at e p First = record {
  before = e.left;
  calls = map asked (turns_of First e.turns);
  answers = map said (turns_of First e.turns');
  auditor = p.first;
  still = e.left';
}
run_at e p Second = record {
  before = e.right;
  calls = map asked (turns_of Second e.turns);
  answers = map said (turns_of Second e.turns');
  auditor = p.second;
  still = e.right';
}

-- both accounts when the auditors are opened
abbrev pub at_first : List Rule → Ends → Both
at_first rs e = record { first = account rs [] e.left; second = account rs [] e.right }

-- The law.
pub record Law (e : Ends) (rs : List Rule) (p : Pair) : Type 0 where
  -- each auditor answers, writes and leaves what its account does; its verdicts are final; nothing is lost
  pub lawful : (x : Side) → Lawful rs (run_at e p x)
  -- equal logs, equal pages
  pub alike : Alike rs (run_at e p First) (run_at e p Second)
  -- every turn is still that side's call
  pub kept : map called e.turns' ≡ map called e.turns
  -- after each turn, in the order given, the observer was shown both auditors' pages and waiting lists, as the accounts have them
  pub seen : (ms : List Moment) → e.saw ms → e.saw' (ms ++ moments (at_first rs e) e.turns)
  -- where, after the first k turns, each side's account is that of its own calls among them
  pub own : (k : ℕ) (x : Side) → side x (after_turns (at_first rs e) (take k e.turns)) ≡ after rs (length (turns_of x (take k e.turns))) (run_at e p x)
  -- and what the account takes, in words
  pub takes : TakeLaw
