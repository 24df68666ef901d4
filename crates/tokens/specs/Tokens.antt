-- What a token of the code stands for in the text, and what the cursor's calls ensure.
use Rattle.std.specs.Prelude.{◌≡◌, ℕ, Bool, true, false, if◌then◌else◌, ◌&&◌, List, [], ◌∷◌, length, drop, Some, None, Option}
use Rattle.tokens.specs.declared.source.Cursor.{Cursor}
use Rattle.tokens.specs.declared.token.Found.{Found}
use Rattle.tokens.specs.declared.token.Symbol.{Symbol}
use Rattle.tokens.specs.declared.token.Symbol.TheVariants.{AtMost, AtLeast, Equal, Plus, Times, Comma, Semicolon, Open, Close, OpenSquare, CloseSquare}
use Rattle.tokens.specs.declared.token.Token.{Token}
use Rattle.tokens.specs.declared.token.Token.TheVariants.{Word, Number, Mark, Stray, End}
use Rattle.tokens.specs.Text.{Stretch, word, number, symbol, stray, end, Placed, placed, is_angle, symbol_of, stretches_from, is_end}

abbrev pub stretch_of : Token → Stretch
stretch_of (Word w) = word w.now
stretch_of (Number w) = number w.now
stretch_of (Mark s) = symbol s
stretch_of Stray = stray
stretch_of End = end

abbrev pub symbol_len : Symbol → ℕ
symbol_len AtMost = 2
symbol_len AtLeast = 2
symbol_len Equal = 1
symbol_len Plus = 1
symbol_len Times = 1
symbol_len Comma = 1
symbol_len Semicolon = 1
symbol_len Open = 1
symbol_len Close = 1
symbol_len OpenSquare = 1
symbol_len CloseSquare = 1

abbrev pub token_len : Token → ℕ
token_len (Word w) = length w.now
token_len (Number w) = length w.now
token_len (Mark s) = symbol_len s
token_len Stray = 1
token_len End = 0

-- the stretches of the text from place p on, where one may begin
unfoldable pub tokens_at : List ℕ → ℕ → List Placed
tokens_at text p = stretches_from p 0 (drop p text)

-- the stretches ahead
abbrev pub ahead : Cursor → List Placed
ahead c = tokens_at c.text.now c.pos

abbrev pub symbol_stretch : Option Symbol → Stretch
symbol_stretch None = stray
symbol_stretch (Some s) = symbol s

abbrev pub symbol_span : Option Symbol → ℕ
symbol_span None = 1
symbol_span (Some s) = symbol_len s

-- what a byte that is no letter and no digit stands for, where eq says whether `=` follows it
pub record SymbolAt (b : ℕ) (eq : Bool) (r : Option Symbol) : Type 0 where
  pub is : symbol_of (if is_angle b && eq then b ∷ 61 ∷ [] else b ∷ []) ≡ symbol_stretch r
  pub span : symbol_span r ≡ (if is_angle b && eq then 2 else 1)

-- The next stretch was taken; the end stays ahead.
pub record Next (from : List Placed) (r : Found) (to : List Placed) : Type 0 where
  pub rest : List Placed
  pub split : from ≡ placed r.place (stretch_of r.token) ∷ rest
  pub goes : is_end (stretch_of r.token) ≡ false → rest ≡ to

-- Nothing was taken; r says whether only the end is left.
pub record AtEnd (from : List Placed) (r : Bool) (to : List Placed) : Type 0 where
  pub stays : to ≡ from
  pub next : Placed
  pub rest : List Placed
  pub split : from ≡ next ∷ rest
  pub only : r ≡ true → (next.stretch ≡ end) × (rest ≡ [])
  pub more : r ≡ false → is_end next.stretch ≡ false
