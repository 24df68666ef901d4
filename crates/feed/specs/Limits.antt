-- The fields of a line: their limits, their numbers and their names. Assumes nothing.
use Rattle.std.specs.Prelude.{ℕ, List, codes}
use Rattle.feed.specs.declared.fields.Field.{Field}
use Rattle.feed.specs.declared.fields.Field.TheVariants.{Time, Kind, Machine, Crew, Run, Reading}

-- the largest value of each field; time counts the minutes since the season began
abbrev pub limit : Field → ℕ
limit Time = 9999999
limit Kind = 999
limit Machine = 9999
limit Crew = 9999
limit Run = 9999
limit Reading = 999999

-- the number by which a fault names a field
abbrev pub field_number : Field → ℕ
field_number Time = 1
field_number Kind = 2
field_number Machine = 3
field_number Crew = 4
field_number Run = 5
field_number Reading = 6

-- the name of each field
abbrev pub field_name : Field → List ℕ
field_name Time = codes "time"
field_name Kind = codes "kind"
field_name Machine = codes "machine"
field_name Crew = codes "crew"
field_name Run = codes "run"
field_name Reading = codes "reading"
