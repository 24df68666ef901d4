-- An auditor as the holder of a log, and what a take does to that. Assumes nothing.
use Rattle.std.specs.Prelude.{◌≡◌, ℕ, false, List, ◌++◌, length}
use Rattle.feed.specs.declared.faults.Item.{Item}
use Rattle.feed.specs.declared.lines.Line.{Line}
use Rattle.book.specs.Rules.{Rule}
use Rattle.duty.specs.Standings.{rules_of}
use Rattle.auditor.specs.Account.{Drawn, count_in}
use Rattle.auditor.specs.Held.{Held}
use Rattle.auditor.specs.declared.answers.Taken.{Taken}
use Rattle.auditor.specs.declared.auditors.Auditor.{Auditor}

-- the auditor has the book rs, and all that it keeps is that of the log
pub record Holds (rs : List Rule) (log : List Line) (a : Auditor) : Type 0 where
  pub book : rules_of a.standing ≡ rs
  pub held : Held a.standing a.lines a.last log

-- a take that went as d answered r, and left the auditor a and the waiting list w'
pub record Took (rs : List Rule) (log : List Line) (d : Drawn) (r : Taken) (a : Auditor) (w' : List Item) : Type 0 where
  pub lines : r.lines ≡ length d.lines
  pub stop : r.stop ≡ d.stop
  pub holds : Holds rs (log ++ d.lines) a
  pub left : w' ≡ d.left

-- a take whose count is refused leaves the auditor and the feed as they are, the feed's own state too: it did not look
abbrev pub Untouched : {F : Type 0} → ℕ → Auditor → Auditor → F → F → Type 0
Untouched c a a' f f' = count_in c ≡ false → (a' ≡ a) × (f' ≡ f)
