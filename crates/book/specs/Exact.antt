-- A text is at most one book, or has one first fault; it is one of the two, and never both.
use Rattle.std.specs.Prelude.{◌≡◌, ℕ, List}
use Rattle.book.specs.declared.refusals.Reason.{Reason}
use Rattle.book.specs.Rules.{Rule}
use Rattle.book.specs.Grammar.{Spot, rule_items, tokens_of}
use Rattle.book.specs.Faults.{Accepted, Refused}

abbrev pub OneBook : Type 0
OneBook = (text : List ℕ) (b b' : List Rule) → Accepted text b → Accepted text b' → b ≡ b'

abbrev pub Apart : Type 0
Apart = (text : List ℕ) (b : List Rule) (r : Reason) (p : ℕ) → Accepted text b → Refused text r p → ⊥

abbrev pub OneFault : Type 0
OneFault = (text : List ℕ) (r : Reason) (p : ℕ) (r' : Reason) (p' : ℕ) → Refused text r p → Refused text r' p' → (r ≡ r') × (p ≡ p')

-- no text is neither
abbrev pub Whole : Type 0
Whole = (text : List ℕ) → ((b : List Rule) → Accepted text b → ⊥) → ((r : Reason) (p : ℕ) → Refused text r p → ⊥) → ⊥

-- rules with the same tokens are the same
abbrev pub SameTokens : Type 0
SameTokens = (s : Spot) (r r' : Rule) → tokens_of (rule_items s r) ≡ tokens_of (rule_items s r') → r ≡ r'
