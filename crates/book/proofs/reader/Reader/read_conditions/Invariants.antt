use Rattle.std.proofs.Common.{◌+◌, ◌-◌, ◌≤◌, List, [], Result, vec_len, vec_items}
use Rattle.book.specs.declared.refusals.Refusal.{Refusal}
use Rattle.book.specs.declared.terms.Condition.{Condition}
use Rattle.book.specs.Text.{Lexeme}
use Rattle.book.specs.Readers.{coming}
use Rattle.book.proofs.Lists.{ToldMore}
use Rattle.book.proofs.reader.Reader.read_conditions.Given as goal

-- What is made of the rest is made of the whole.
abbrev pub invariant-loop-conditions : goal.invariant-loop-conditions
invariant-loop-conditions l = record {
  few : vec_len l.conditions ≤ 4;
  whole : (r : Result (Unit {0}) Refusal) (to : List Lexeme) (ys : List Condition) → ToldMore (vec_len l.conditions + 1) l.bound (coming l.self) r to (vec_items l.conditions) ys → ToldMore 1 l.bound (coming l.fn.self) r to [] ys;
}

abbrev pub decreases-loop-conditions : goal.decreases-loop-conditions
decreases-loop-conditions l = 5 - vec_len l.conditions
