-- The waiting lists of several feeds. Assumes nothing.
use Rattle.std.specs.Prelude.{◌≡◌, ℕ, ◌-◌, if◌then◌else◌, List, [], ◌∷◌, ◌++◌, length, ◌==◌}
use Rattle.feed.specs.declared.faults.Item.{Item}
use Rattle.feed.specs.declared.lines.Line.{Line}
use Rattle.book.specs.Rules.{Rule}
use Rattle.auditor.specs.Account.{Drawn}
use Rattle.auditor.specs.Holds.{Holds}
use Rattle.auditor.specs.declared.answers.Taken.{Taken}
use Rattle.auditor.specs.declared.auditors.Auditor.{Auditor}

-- what waits in feed i, counted from 0; nothing in a feed that is not there
abbrev pub waiting_at : List (List Item) → ℕ → List Item
waiting_at [] i = []
waiting_at (w ∷ ws) i = if i == 0 then w else waiting_at ws (i - 1)

-- the lists with w in the place of that of feed i
abbrev pub put_at : List (List Item) → ℕ → List Item → List (List Item)
put_at [] i w = []
put_at (v ∷ ws) i w = if i == 0 then w ∷ ws else v ∷ put_at ws (i - 1) w

-- a take at feed i that went as d answered r, and left the auditor a and the lists ws'
pub record TookAt (rs : List Rule) (log : List Line) (d : Drawn) (i : ℕ) (r : Taken) (a : Auditor) (ws ws' : List (List Item)) : Type 0 where
  pub lines : r.lines ≡ length d.lines
  pub stop : r.stop ≡ d.stop
  pub holds : Holds rs (log ++ d.lines) a
  pub left : ws' ≡ put_at ws i d.left
