-- The text form of a line: which line or which fault the bytes of an item are. Assumes nothing.
use Rattle.std.specs.Prelude.{ℕ, ◌+◌, ◌-◌, ◌*◌, Bool, true, false, if◌then◌else◌, ◌&&◌, List, [], ◌∷◌, length, take, drop, Some, None, Ok, Err, Option, Result, ◌==◌, nat_le, nat_lt, slice_index}
use Rattle.feed.specs.Faults.{naming}
use Rattle.feed.specs.Lines.{line_of}
use Rattle.feed.specs.declared.faults.FaultKind.{FaultKind}
use Rattle.feed.specs.declared.faults.FaultKind.TheVariants as faults
use Rattle.feed.specs.declared.fields.Field.{Field}
use Rattle.feed.specs.declared.fields.Field.TheVariants.{Time, Kind, Machine, Crew, Run, Reading}
use Rattle.feed.specs.declared.lines.Line.{Line}
use Rattle.feed.specs.declared.text.FieldText.{FieldText}
use Rattle.feed.specs.declared.text.FieldText.TheVariants.{Blank, Number, Malformed}

-- the columns of each field: where they start, and how many they are
abbrev pub start : Field → ℕ
start Time = 0
start Kind = 8
start Machine = 12
start Crew = 17
start Run = 22
start Reading = 27

abbrev pub width : Field → ℕ
width Time = 8
width Kind = 4
width Machine = 5
width Crew = 5
width Run = 5
width Reading = 7

abbrev pub column : Field → List ℕ → List ℕ
column f bytes = take (width f) (drop (start f) bytes)

-- what follows the blanks in front (byte 32)
abbrev pub after_blanks : List ℕ → List ℕ
after_blanks [] = []
after_blanks (b ∷ bs) = if b == 32 then after_blanks bs else b ∷ bs

-- the number whose decimal digits are those of n and then the bytes, `0` to `9` (48 to 57)
abbrev pub digits_from : ℕ → List ℕ → FieldText
digits_from n [] = Number n
digits_from n (b ∷ bs) = if nat_le 48 b && nat_le b 57 then digits_from (n * 10 + (b - 48)) bs else Malformed

-- a decimal number, with no leading zero but in 0 itself; nothing at all is a blank field
abbrev pub numeral : List ℕ → FieldText
numeral [] = Blank
numeral (b ∷ []) = digits_from 0 (b ∷ [])
numeral (b ∷ c ∷ bs) = if b == 48 then Malformed else digits_from 0 (b ∷ c ∷ bs)

-- a field is one blank or more, and then a number up to its right end
abbrev pub field_text : List ℕ → FieldText
field_text [] = Malformed
field_text (b ∷ bs) = if b == 32 then numeral (after_blanks bs) else Malformed

-- time and kind must have a number; any other field may be blank
abbrev pub may_be_blank : Field → Bool
may_be_blank Time = false
may_be_blank Kind = false
may_be_blank Machine = true
may_be_blank Crew = true
may_be_blank Run = true
may_be_blank Reading = true

-- a field's value, where it has one; a field that is left blank counts as 0
abbrev pub settled : Field → FieldText → Option ℕ
settled f (Number n) = Some n
settled f Blank = if may_be_blank f then Some 0 else None
settled f Malformed = None

-- a field's value in an item, or the fault that names the field
abbrev pub valued : Field → Option ℕ → Result ℕ FaultKind
valued f (Some n) = Ok n
valued f None = Err (faults.Malformed f)

unfoldable pub value_in : Field → List ℕ → Result ℕ FaultKind
value_in f item = valued f (settled f (field_text (column f item)))

-- goes on with a value, and ends with a fault
abbrev pub and_then : Result ℕ FaultKind → (ℕ → Result Line FaultKind) → Result Line FaultKind
and_then (Ok n) go = go n
and_then (Err e) go = Err e

-- the fields are read in their order, so a fault names the lowest that is malformed
unfoldable pub text_fields : List ℕ → Result Line FaultKind
text_fields item =
    and_then (value_in Time item) (λ t.
    and_then (value_in Kind item) (λ k.
    and_then (value_in Machine item) (λ m.
    and_then (value_in Crew item) (λ c.
    and_then (value_in Run item) (λ u.
    and_then (value_in Reading item) (λ r. naming faults.Malformed (line_of t k m c u r)))))))

-- an item of text: first its length is tested, then its last byte, then its fields
abbrev pub text_line : List ℕ → Result Line FaultKind
text_line item =
    if nat_lt (length item) 35 then Err faults.ShortText else
    if slice_index item 34 == 10 then text_fields item else Err faults.NoLineFeed
