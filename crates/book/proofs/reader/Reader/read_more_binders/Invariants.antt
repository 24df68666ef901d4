use Rattle.std.proofs.Common.{List, length, Result, vec_items}
use Rattle.book.specs.declared.patterns.Ending.{Ending}
use Rattle.book.specs.declared.refusals.Refusal.{Refusal}
use Rattle.book.specs.declared.terms.Binder.{Binder}
use Rattle.book.specs.Text.{Lexeme}
use Rattle.book.specs.Patterns.{more_closed, ToldBinders}
use Rattle.book.specs.Readers.{coming}
use Rattle.book.proofs.reader.Reader.read_more_binders.Given as goal

-- What is made of the rest is made of the whole.
abbrev pub invariant-loop-seen : goal.invariant-loop-seen
invariant-loop-seen l = record {
  whole : (r : Result Ending Refusal) (to : List Lexeme) (ys : List Binder) → ToldBinders (more_closed l.fields l.letters) (coming l.self) r to (vec_items l.out) ys → ToldBinders (more_closed l.fn.fields l.fn.letters) (coming l.fn.self) r to (vec_items l.fn.out) ys;
}

-- what is left to read
abbrev pub decreases-loop-seen : goal.decreases-loop-seen
decreases-loop-seen l = length (coming l.self)
