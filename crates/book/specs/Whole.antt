-- What the reader of a whole text ensures.
use Rattle.std.specs.Prelude.{◌≡◌, ℕ, List, [], Ok, Err, vec_items, Result, Vec}
use Rattle.std.specs.declared.alloc.Global.{Global}
use Rattle.book.specs.declared.book.Book.{Book}
use Rattle.book.specs.declared.refusals.Reason.{Reason}
use Rattle.book.specs.declared.refusals.Refusal.{Refusal}
use Rattle.book.specs.declared.refusals.Refusal.TheVariants.{Faulty, NoMemory}
use Rattle.book.specs.declared.rules.Rule as held
use Rattle.book.specs.Rules.{Rule}
use Rattle.book.specs.Grammar.{items}
use Rattle.book.specs.Faults.{Accepted, Refused}
use Rattle.book.specs.Text.{Lexeme}
use Rattle.book.specs.Readers.{ToldBy}
use Rattle.book.specs.Trees.{pure_rules}

-- the rules of a book, as the meaning is defined on them
abbrev pub pure_book : Book → List Rule
pure_book b = pure_rules (vec_items b.rules)

-- the rules up to the end were read
abbrev pub ToldRules : List Lexeme → Result (Vec held.Rule Global) Refusal → Type 0
ToldRules from r = ToldBy (Vec held.Rule Global) (List Rule) (λ v. pure_rules (vec_items v)) items from r []

-- the text is the book that was read, or the fault is its first
abbrev pub Told : List ℕ → Result Book Refusal → Type 0
Told text (Ok b) = Accepted text (pure_book b)
Told text (Err (Faulty f)) = Refused text f.reason f.place
Told text (Err NoMemory) = Unit {0}

-- the answer to a text that is the book b
abbrev pub IsBook : List Rule → Result Book Refusal → Type 0
IsBook b (Ok x) = pure_book x ≡ b
IsBook b (Err (Faulty f)) = ⊥
IsBook b (Err NoMemory) = Unit {0}

-- the answer to a text whose first fault is r at place p
abbrev pub IsRefusal : Reason → ℕ → Result Book Refusal → Type 0
IsRefusal r p (Ok x) = ⊥
IsRefusal r p (Err (Faulty f)) = (f.reason ≡ r) × (f.place ≡ p)
IsRefusal r p (Err NoMemory) = Unit {0}

-- What the reader answers to a text: the book that it is, exactly when it is one, else its first fault. Want of memory is the one exception.
pub record Answered (text : List ℕ) (r : Result Book Refusal) : Type 0 where
  pub told : Told text r
  pub book : (b : List Rule) → Accepted text b → IsBook b r
  pub refusal : (n : Reason) (p : ℕ) → Refused text n p → IsRefusal n p r
