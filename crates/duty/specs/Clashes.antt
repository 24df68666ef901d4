-- What rules a binder out, whichever letters other binders bind. Assumes nothing.
use Rattle.std.specs.Prelude.{ℕ, Bool, false, not, List, Some, None, Option, ◌==◌}
use Rattle.std.specs.List.{list_any}
use Rattle.feed.specs.Lines.{value}
use Rattle.feed.specs.declared.lines.Line.{Line}
use Rattle.book.specs.declared.terms.Binder.{Binder}
use Rattle.book.specs.declared.terms.Operand.{Operand}
use Rattle.book.specs.declared.terms.Operand.TheVariants as operand
use Rattle.duty.specs.Matching.{Bindings, bound}

abbrev pub clashed : Option ℕ → ℕ → Bool
clashed None y = false
clashed (Some x) y = not (x == y)

-- its number, or that of its bound letter, is not the line's
abbrev pub clashes : Operand → ℕ → Bindings → Bool
clashes (operand.Number x) y f = not (x == y)
clashes (operand.Bound a) y f = clashed (bound f a) y

-- some binder is ruled out
abbrev pub ruled_out : List Binder → Line → Bindings → Bool
ruled_out bs l f = list_any (λ b. clashes b.operand (value l b.field) f) bs
