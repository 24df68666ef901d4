-- The report on a list of items. Assumes nothing.
use Rattle.std.specs.Prelude.{◌≡◌, ℕ, min, List, [], ◌∷◌, length, Some, None, vec_items, Option}
use Rattle.feed.specs.declared.faults.Fault.{Fault}
use Rattle.feed.specs.declared.faults.Item.{Item}
use Rattle.feed.specs.declared.faults.Item.TheVariants.{Sound, Faulty}
use Rattle.feed.specs.declared.lines.Line.{Line}
use Rattle.report.specs.declared.reports.Report.{Report}

-- the sound lines and the faults of a list, each in their order
abbrev pub sound_lines : List Item → List Line
sound_lines [] = []
sound_lines (Sound l ∷ xs) = l ∷ sound_lines xs
sound_lines (Faulty x ∷ xs) = sound_lines xs

abbrev pub faults_of : List Item → List Fault
faults_of [] = []
faults_of (Sound l ∷ xs) = faults_of xs
faults_of (Faulty x ∷ xs) = x ∷ faults_of xs

-- the times of the first and the last line
abbrev pub first_time_of : List Line → Option ℕ
first_time_of [] = None
first_time_of (l ∷ ls) = Some l.time

abbrev pub last_time_of : List Line → Option ℕ
last_time_of [] = None
last_time_of (l ∷ []) = Some l.time
last_time_of (l ∷ m ∷ ls) = last_time_of (m ∷ ls)

-- the largest count
abbrev pub most_counted : ℕ
most_counted = 18446744073709551615

-- r is the report on the items xs
pub record Reports (xs : List Item) (r : Report) : Type 0 where
  pub sound : r.sound ≡ min (length (sound_lines xs)) most_counted
  pub first_time : r.first_time ≡ first_time_of (sound_lines xs)
  pub last_time : r.last_time ≡ last_time_of (sound_lines xs)
  pub faults : vec_items r.faults ≡ faults_of xs
