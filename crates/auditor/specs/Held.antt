-- What an auditor keeps of a log. Assumes nothing.
use Rattle.std.specs.Prelude.{◌≡◌, ℕ, ◌≤◌, List, length}
use Rattle.feed.specs.declared.lines.Line.{Line}
use Rattle.duty.specs.Standings.{Stands}
use Rattle.duty.specs.declared.standings.Standing.{Standing}
use Rattle.auditor.specs.Account.{latest}

-- the verdicts and the sheet of the log, its length and its last time
pub record Held (standing : Standing) (lines last : ℕ) (log : List Line) : Type 0 where
  pub stands : Stands standing log
  pub counted : lines ≡ length log
  pub timed : last ≡ latest log
  pub few : length log ≤ 1000000
