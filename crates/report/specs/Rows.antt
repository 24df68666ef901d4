-- A report in words. Assumes nothing.
use Rattle.std.specs.Prelude.{ℕ, List, ◌++◌, length, Some, None, vec_items, codes, decimal, Option}
use Rattle.feed.specs.Faults.{fault_numbers, fault_field, fault_words}
use Rattle.feed.specs.Limits.{field_number, field_name}
use Rattle.feed.specs.declared.faults.Fault.{Fault}
use Rattle.feed.specs.declared.faults.FaultNumbers.{FaultNumbers}
use Rattle.feed.specs.declared.fields.Field.{Field}
use Rattle.report.specs.declared.reports.Report.{Report}

abbrev pub time_text : Option ℕ → List ℕ
time_text None = codes "none"
time_text (Some t) = decimal t

-- four lines: sound lines, first time, last time, and the count of faults
abbrev pub head_text : ℕ → List ℕ → List ℕ → ℕ → List ℕ
head_text sound first last faults =
    codes "sound lines: " ++ (decimal sound ++ (codes "\nfirst time: " ++ (first ++ (codes "\nlast time: " ++ (last ++ (codes "\nfaults: " ++ (decimal faults ++ codes "\n")))))))

abbrev pub summary_text : Report → List ℕ
summary_text r = head_text r.sound (time_text r.first_time) (time_text r.last_time) (length (vec_items r.faults))

-- the field that a fault names, by number and name
abbrev pub field_text : Option Field → List ℕ
field_text None = codes "no field"
field_text (Some f) = codes "field " ++ (decimal (field_number f) ++ (codes " " ++ field_name f))

-- a fault's row: its number and words, its station, its item, and its field
abbrev pub row_text : FaultNumbers → List ℕ → List ℕ → List ℕ
row_text n words field =
    decimal n.number ++ (codes " " ++ (words ++ (codes ": station " ++ (decimal n.station ++ (codes ", item " ++ (decimal n.item ++ (codes ", " ++ (field ++ codes "\n"))))))))

abbrev pub fault_text : Fault → List ℕ
fault_text x = row_text (fault_numbers x) (fault_words x.kind) (field_text (fault_field x.kind))
