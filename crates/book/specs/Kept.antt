-- What every book that exists keeps.
use Rattle.std.specs.Prelude.{ℕ, List, is_none, IsTrue}
use Rattle.std.specs.List.{list_all}
use Rattle.book.specs.declared.rules.Rule.{Rule}
use Rattle.book.specs.Grammar.{items}
use Rattle.book.specs.Faults.{fault, Accepted}
use Rattle.book.specs.Trees.{pure_rules}

-- no token of the book is at fault: it keeps the limits and the scoping
abbrev pub Kept : List Rule → Type 0
Kept rs = IsTrue (list_all (λ i. is_none (fault i)) (items (pure_rules rs)))

-- some text is this book
abbrev pub Written : List Rule → Type 0
Written rs = ∥ ((text : List ℕ) × Accepted text (pure_rules rs)) ∥₁
