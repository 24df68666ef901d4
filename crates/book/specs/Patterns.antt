-- What the readers of a pattern ensure.
use Rattle.std.specs.Prelude.{◌≡◌, ℕ, List, [], ◌∷◌, ◌++◌, Ok, Err, Result, Vec, vec_items}
use Rattle.std.specs.declared.alloc.Global.{Global}
use Rattle.feed.specs.declared.fields.Field.{Field}
use Rattle.book.specs.Sets.{Fields, Letters}
use Rattle.book.specs.declared.patterns.Ending.{Ending}
use Rattle.book.specs.declared.patterns.Ending.TheVariants.{Conditions, Pattern}
use Rattle.book.specs.declared.refusals.Refusal.{Refusal}
use Rattle.book.specs.declared.refusals.Refusal.TheVariants.{Faulty, NoMemory}
use Rattle.book.specs.declared.terms.Binder.{Binder}
use Rattle.book.specs.declared.terms.Operand.{Operand}
use Rattle.book.specs.declared.terms.Condition.{Condition}
use Rattle.book.specs.declared.terminals.Terminal.{Terminal}
use Rattle.book.specs.declared.terminals.Terminal.TheVariants.{If, Named, CloseSquare}
use Rattle.book.specs.Grammar.{Item, item, mark, names, operand_item, more_binders, binder_items, conditions_items}
use Rattle.book.specs.Text.{Lexeme}
use Rattle.book.specs.Reading.{any, Reads, Fails}

abbrev pub field_items : Fields → Field → List Item
field_items fs f = item (Named f) (names fs f) ∷ []

abbrev pub operand_items : Letters → Operand → List Item
operand_items ls v = operand_item ls v ∷ []

-- what ends a list of binders
abbrev pub closer : Ending → Terminal
closer Conditions = If
closer Pattern = CloseSquare

-- binders with what ends them, from the second on and from the first on
abbrev pub more_closed : Fields → Letters → List Binder × Ending → List Item
more_closed fs ls x = more_binders fs ls x.0 ++ (mark (closer x.1) ∷ [])

abbrev pub binders_closed : List Binder × Ending → List Item
binders_closed x = binder_items x.0 ++ (mark (closer x.1) ∷ [])

-- binders were read behind xs, which are ys now
abbrev pub ToldBinders : (List Binder × Ending → List Item) → List Lexeme → Result Ending Refusal → List Lexeme → List Binder → List Binder → Type 0
ToldBinders P from (Ok b) to xs ys = (bs : List Binder) × (ys ≡ xs ++ bs) × Reads from (P (bs, b)) to
ToldBinders P from (Err (Faulty e)) to xs ys = Fails (List Binder × Ending) P (any (List Binder × Ending)) from e.reason e.place
ToldBinders P from (Err NoMemory) to xs ys = Unit {0}

-- the conditions from the k-th on, up to the `]`
abbrev pub conditions_closed : ℕ → Letters → Condition × List Condition → List Item
conditions_closed k s x = conditions_items k s x.0 x.1

-- the conditions of a pattern were read
abbrev pub ToldConditions : Letters → List Lexeme → Result (Vec Condition Global) Refusal → List Lexeme → Type 0
ToldConditions s from (Ok v) to = (c : Condition) × (cs : List Condition) × (vec_items v ≡ c ∷ cs) × Reads from (conditions_items 1 s c cs) to
ToldConditions s from (Err (Faulty e)) to = Fails (Condition × List Condition) (conditions_closed 1 s) (any (Condition × List Condition)) from e.reason e.place
ToldConditions s from (Err NoMemory) to = Unit {0}
