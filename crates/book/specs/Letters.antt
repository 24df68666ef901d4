-- The eight letters. Assumes nothing.
use Rattle.std.specs.Prelude.{ℕ}
use Rattle.book.specs.declared.terms.Letter.{Letter}
use Rattle.book.specs.declared.terms.Letter.TheVariants as letters

-- a letter's place among the eight, from 0
abbrev pub letter_index : Letter → ℕ
letter_index letters.A = 0
letter_index letters.B = 1
letter_index letters.C = 2
letter_index letters.D = 3
letter_index letters.E = 4
letter_index letters.F = 5
letter_index letters.G = 6
letter_index letters.H = 7
