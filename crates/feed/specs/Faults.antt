-- Faults by their numbers and their words. Assumes nothing.
use Rattle.std.specs.Prelude.{ℕ, List, Some, None, Ok, Err, codes, Option, Result}
use Rattle.feed.specs.Limits.{field_number}
use Rattle.feed.specs.declared.faults.Fault.{Fault}
use Rattle.feed.specs.declared.faults.FaultKind.{FaultKind}
use Rattle.feed.specs.declared.faults.FaultKind.TheVariants.{ShortText, NoLineFeed, Malformed, OverLimit, FewWords}
use Rattle.feed.specs.declared.faults.FaultNumbers.{FaultNumbers}
use Rattle.feed.specs.declared.fields.Field.{Field}
use Rattle.feed.specs.declared.lines.Line.{Line}

-- the number of each kind of fault
abbrev pub fault_number : FaultKind → ℕ
fault_number ShortText = 21
fault_number NoLineFeed = 22
fault_number (Malformed f) = 23
fault_number (OverLimit f) = 24
fault_number FewWords = 25

-- the field that it names, if it names one
abbrev pub fault_field : FaultKind → Option Field
fault_field ShortText = None
fault_field NoLineFeed = None
fault_field (Malformed f) = Some f
fault_field (OverLimit f) = Some f
fault_field FewWords = None

-- the number of that field, 0 where there is none
abbrev pub number_of : Option Field → ℕ
number_of None = 0
number_of (Some f) = field_number f

-- all that a recorder is told of a fault
abbrev pub fault_numbers : Fault → FaultNumbers
fault_numbers x = record {
  number = fault_number x.kind;
  station = x.station;
  item = x.item;
  field = number_of (fault_field x.kind);
}

abbrev pub fault_words : FaultKind → List ℕ
fault_words ShortText = codes "short text item"
fault_words NoLineFeed = codes "no line feed at the end"
fault_words (Malformed f) = codes "malformed field"
fault_words (OverLimit f) = codes "field over its limit"
fault_words FewWords = codes "fewer than four words"

-- a line, or the fault that names the field
abbrev pub naming : (Field → FaultKind) → Result Line Field → Result Line FaultKind
naming fault (Ok l) = Ok l
naming fault (Err f) = Err (fault f)
