-- The packed form of a line: which line or which fault the words of an item are. Assumes nothing.
use Rattle.std.specs.Prelude.{ℕ, ◌+◌, ◌*◌, ◌/◌, ◌%◌, if◌then◌else◌, List, [], ◌∷◌, length, Err, Result, nat_lt, slice_index}
use Rattle.feed.specs.Faults.{naming}
use Rattle.feed.specs.Lines.{line_of}
use Rattle.feed.specs.declared.faults.FaultKind.{FaultKind}
use Rattle.feed.specs.declared.faults.FaultKind.TheVariants.{OverLimit, FewWords}
use Rattle.feed.specs.declared.lines.Line.{Line}

-- the upper and the lower 16 bits of a word
abbrev pub upper : ℕ → ℕ
upper w = w / 65536

abbrev pub lower : ℕ → ℕ
lower w = w % 65536

-- four words: time; kind above machine; crew above run; reading
abbrev pub packed_fields : (first second third fourth : ℕ) → Result Line FaultKind
packed_fields a b c d = naming OverLimit (line_of a (upper b) (lower b) (upper c) (lower c) d)

-- a packed item: first its length is tested, then its fields; a fault names the lowest over its limit
abbrev pub packed_line : List ℕ → Result Line FaultKind
packed_line item =
    if nat_lt (length item) 4 then Err FewWords else
    packed_fields (slice_index item 0) (slice_index item 1) (slice_index item 2) (slice_index item 3)

-- the word with these upper and lower 16 bits
abbrev pub halves : ℕ → ℕ → ℕ
halves high low = high * 65536 + low

-- the packed form of a line: time; kind above machine; crew above run; reading
abbrev pub packed_words : Line → List ℕ
packed_words l = l.time ∷ halves l.kind l.machine ∷ halves l.crew l.run ∷ l.reading ∷ []
