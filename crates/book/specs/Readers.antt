-- What the readers of the code ensure.
use Rattle.std.specs.Prelude.{◌≡◌, Bool, true, false, List, [], ◌∷◌, Ok, Err, Result}
use Rattle.tokens.specs.Tokens.{ahead}
use Rattle.book.specs.declared.reader.Reader.{Reader}
use Rattle.book.specs.declared.refusals.Fault.{Fault}
use Rattle.book.specs.declared.refusals.Refusal.{Refusal}
use Rattle.book.specs.declared.refusals.Refusal.TheVariants.{Faulty, NoMemory}
use Rattle.book.specs.declared.terminals.Seen.{Seen}
use Rattle.book.specs.declared.terminals.Terminal.{Terminal}
use Rattle.book.specs.declared.terminals.Terminal.TheVariants.{End}
use Rattle.book.specs.Grammar.{Item, mark}
use Rattle.book.specs.Text.{Lexeme, lexeme, meanings}
use Rattle.book.specs.Reading.{any, Reads, Fails}

-- the lexemes ahead
abbrev pub coming : Reader → List Lexeme
coming r = meanings (ahead r.cursor)

abbrev pub is_end : Terminal → Bool
is_end End = true
is_end _ = false

abbrev pub seen_as : Seen → Lexeme
seen_as s = lexeme s.place (Ok s.terminal)

-- the next lexeme was taken; the end stays ahead
abbrev pub Next : List Lexeme → Result Seen Fault → List Lexeme → Type 0
Next from (Ok s) to = (rest : List Lexeme) × (from ≡ seen_as s ∷ rest) × (is_end s.terminal ≡ false → rest ≡ to)
Next from (Err e) to = (rest : List Lexeme) × (from ≡ lexeme e.place (Err e.reason) ∷ rest)

-- a tree was read that P says how to write, or the first fault was found
abbrev pub Told : (X : Type 0) → (X → List Item) → List Lexeme → Result X Fault → List Lexeme → Type 0
Told X P from (Ok x) to = Reads from (P x) to
Told X P from (Err e) to = Fails X P (any X) from e.reason e.place

-- The same where the token after the tree was taken too, which by S does not belong to it.
pub record Passed (from : List Lexeme) (is : List Item) (s : Seen) (to : List Lexeme) : Type 0 where
  pub rest : List Lexeme
  pub reads : Reads from is (seen_as s ∷ rest)
  pub goes : is_end s.terminal ≡ false → rest ≡ to

abbrev pub ToldNext : (X : Type 0) → (X → List Item) → (X → Terminal → Type 0) → List Lexeme → Result (X × Seen) Fault → List Lexeme → Type 0
ToldNext X P S from (Ok x) to = Passed from (P x.0) x.1 to × S x.0 x.1.terminal
ToldNext X P S from (Err e) to = Fails X P S from e.reason e.place

-- The same where the code holds the tree x as T, or found no memory.
abbrev pub ToldBy : (T X : Type 0) → (T → X) → (X → List Item) → List Lexeme → Result T Refusal → List Lexeme → Type 0
ToldBy T X f P from (Ok x) to = Reads from (P (f x)) to
ToldBy T X f P from (Err (Faulty e)) to = Fails X P (any X) from e.reason e.place
ToldBy T X f P from (Err NoMemory) to = Unit {0}

-- the one terminal that may stand at a place
abbrev pub only_items : Terminal → Unit {0} → List Item
only_items t u = mark t ∷ []
