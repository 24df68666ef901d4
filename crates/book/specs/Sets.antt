-- Sets of letters and of fields. Assumes nothing.
use Rattle.std.specs.Prelude.{ℕ, Bool, true, false, List, [], ◌∷◌, replicate, slice_index_or, slice_set}
use Rattle.feed.specs.declared.fields.Field.{Field}
use Rattle.feed.specs.declared.fields.Field.TheVariants as fields
use Rattle.book.specs.declared.terms.Letter.{Letter}
use Rattle.book.specs.declared.terms.Binder.{Binder}
use Rattle.book.specs.declared.terms.Operand.{Operand}
use Rattle.book.specs.declared.terms.Operand.TheVariants as operand
use Rattle.book.specs.declared.sets.Set.{Set}
use Rattle.book.specs.Letters.{letter_index}
use Rattle.book.specs.Rules.{Pattern, never, lines}

abbrev pub Letters : Type 0
Letters = Set 8

abbrev pub Fields : Type 0
Fields = Set 6

abbrev pub empty : (n : ℕ) → Set n
empty n = record { held = replicate n false }

-- whether the k-th is in the set
abbrev pub holds : {n : ℕ} → Set n → ℕ → Bool
holds s k = slice_index_or s.held k false

-- s and the k-th
abbrev pub joined : {n : ℕ} → Set n → ℕ → Set n
joined s k = record { held = slice_set s.held k true }

abbrev pub no_letters : Letters
no_letters = empty 8

abbrev pub has : Letters → Letter → Bool
has s l = holds s (letter_index l)

-- s and one letter more
abbrev pub with : Letters → Letter → Letters
with s l = joined s (letter_index l)

-- a field's place among the six, from 0
abbrev pub field_index : Field → ℕ
field_index fields.Time = 0
field_index fields.Kind = 1
field_index fields.Machine = 2
field_index fields.Crew = 3
field_index fields.Run = 4
field_index fields.Reading = 5

abbrev pub no_fields : Fields
no_fields = empty 6

abbrev pub has_field : Fields → Field → Bool
has_field s f = holds s (field_index f)

-- s and one field more
abbrev pub with_field : Fields → Field → Fields
with_field s f = joined s (field_index f)

abbrev pub with_operand : Letters → Operand → Letters
with_operand s (operand.Number n) = s
with_operand s (operand.Bound l) = with s l

-- s and the letters that binders bind
abbrev pub with_binders : Letters → List Binder → Letters
with_binders s [] = s
with_binders s (b ∷ bs) = with_binders (with_operand s b.operand) bs

-- s and the letters that a pattern binds
abbrev pub with_pattern : Letters → Pattern → Letters
with_pattern s never = s
with_pattern s (lines bs cs) = with_binders s bs
