-- What each stretch of a text means: a terminal of the grammar, or the reason why it is none.
use Rattle.std.specs.Prelude.{ℕ, ◌+◌, ◌-◌, ◌*◌, Bool, false, if◌then◌else◌, ◌&&◌, List, [], ◌∷◌, map, length, codes, ◌==◌, nat_le, nat_lt, Ok, Err, Result}
use Rattle.std.specs.Map.{lookup}
use Rattle.std.specs.Option.{ok_or}
use Rattle.std.specs.Str.{bytes_eq}
use Rattle.feed.specs.declared.fields.Field.TheVariants.{Time, Kind, Machine, Crew, Run, Reading}
use Rattle.tokens.specs.declared.token.Symbol.{Symbol}
use Rattle.tokens.specs.declared.token.Symbol.TheVariants as symbols
use Rattle.tokens.specs.Text.{Stretch, word, number, symbol, stray, end, Placed, stretches}
use Rattle.book.specs.declared.terms.Letter.TheVariants as letters
use Rattle.book.specs.declared.terms.Sign.TheVariants.{AtMost, AtLeast, Equal}
use Rattle.book.specs.declared.terms.DutyKind.TheVariants.{Must, MustNot}
use Rattle.book.specs.declared.terms.TriggerKind.TheVariants.{Each, Once}
use Rattle.book.specs.declared.terms.BracketKind.TheVariants as bracket
use Rattle.book.specs.declared.refusals.Reason.{Reason}
use Rattle.book.specs.declared.refusals.Reason.TheVariants.{NoToken, BadNumber}
use Rattle.book.specs.declared.terminals.Terminal.{Terminal}
use Rattle.book.specs.declared.terminals.Terminal.TheVariants.{Duty, Before, Trigger, Until, Then, Joint, Never, If, Named, Lettered, Numeral, Compare, Plus, Times, Comma, Semicolon, Open, Close, OpenSquare, CloseSquare, End}

-- what a stretch means: a terminal, or the reason why it is none
abbrev pub Got : Type 0
Got = Result Terminal Reason

pub record Lexeme : Type 0 where
  pub place : ℕ
  pub got : Got

abbrev pub lexeme : ℕ → Got → Lexeme
lexeme p g = record { place = p; got = g }

-- the words of the grammar, the names of the fields, and the letters
abbrev pub words : List (List ℕ × Terminal)
words =
    (codes "must", Duty Must) ∷ (codes "mustnot", Duty MustNot) ∷ (codes "before", Before) ∷ (codes "each", Trigger Each) ∷ (codes "once", Trigger Once)
    ∷ (codes "until", Until) ∷ (codes "then", Then) ∷ (codes "else", Joint bracket.Else) ∷ (codes "and", Joint bracket.And) ∷ (codes "never", Never) ∷ (codes "if", If)
    ∷ (codes "time", Named Time) ∷ (codes "kind", Named Kind) ∷ (codes "machine", Named Machine) ∷ (codes "crew", Named Crew) ∷ (codes "run", Named Run) ∷ (codes "reading", Named Reading)
    ∷ (codes "A", Lettered letters.A) ∷ (codes "B", Lettered letters.B) ∷ (codes "C", Lettered letters.C) ∷ (codes "D", Lettered letters.D)
    ∷ (codes "E", Lettered letters.E) ∷ (codes "F", Lettered letters.F) ∷ (codes "G", Lettered letters.G) ∷ (codes "H", Lettered letters.H) ∷ []

unfoldable pub word_of : List ℕ → Got
word_of w = ok_or (lookup (λ k. bytes_eq k w) words) NoToken

-- the value of decimal digits after v
abbrev pub value_from : ℕ → List ℕ → ℕ
value_from v [] = v
value_from v (d ∷ ds) = value_from (v * 10 + (d - 48)) ds

abbrev pub leading_zero : List ℕ → Bool
leading_zero [] = false
leading_zero (d ∷ ds) = nat_lt 1 (length (d ∷ ds)) && d == 48

-- a number from 0 to 9,999,999
unfoldable pub number_of : List ℕ → Got
number_of w =
    if leading_zero w then Err BadNumber
    else if nat_le (value_from 0 w) 9999999 then Ok (Numeral (value_from 0 w)) else Err BadNumber

abbrev pub symbol_terminal : Symbol → Terminal
symbol_terminal symbols.AtMost = Compare AtMost
symbol_terminal symbols.AtLeast = Compare AtLeast
symbol_terminal symbols.Equal = Compare Equal
symbol_terminal symbols.Plus = Plus
symbol_terminal symbols.Times = Times
symbol_terminal symbols.Comma = Comma
symbol_terminal symbols.Semicolon = Semicolon
symbol_terminal symbols.Open = Open
symbol_terminal symbols.Close = Close
symbol_terminal symbols.OpenSquare = OpenSquare
symbol_terminal symbols.CloseSquare = CloseSquare

abbrev pub meaning : Stretch → Got
meaning (word w) = word_of w
meaning (number w) = number_of w
meaning (symbol s) = Ok (symbol_terminal s)
meaning stray = Err NoToken
meaning end = Ok End

abbrev pub meanings : List Placed → List Lexeme
meanings = map (λ x. lexeme x.place (meaning x.stretch))

-- the tokens of a text, each with its place, and its end
abbrev pub lexemes : List ℕ → List Lexeme
lexemes text = meanings (stretches text)
