-- What the readers of a condition ensure.
use Rattle.std.specs.Prelude.{◌≡◌, ℕ, List, [], ◌∷◌, ◌≢◌}
use Rattle.book.specs.Sets.{Letters}
use Rattle.book.specs.declared.terms.Letter.{Letter}
use Rattle.book.specs.declared.terms.Part.{Part}
use Rattle.book.specs.declared.terms.Part.TheVariants.{Number, Bound, Product}
use Rattle.book.specs.declared.terms.Sum.{Sum}
use Rattle.book.specs.declared.terms.Sum.TheVariants.{One, Two, Three}
use Rattle.book.specs.declared.terms.Condition.{Condition}
use Rattle.book.specs.declared.terminals.Terminal.{Terminal}
use Rattle.book.specs.declared.terminals.Terminal.TheVariants.{Lettered, Plus, Times}
use Rattle.book.specs.Grammar.{Item, item, uses}

-- a letter in the k-th condition
abbrev pub letter_items : ℕ → Letters → Letter → List Item
letter_items k s l = item (Lettered l) (uses k s l) ∷ []

-- the token t does not go on with the part, the sum, the condition
abbrev pub PartStops : Part → Terminal → Type 0
PartStops (Number n) t = t ≡ Times → ⊥
PartStops (Bound l) t = Unit {0}
PartStops (Product n l) t = Unit {0}

abbrev pub SumStops : Sum → Terminal → Type 0
SumStops (One p) t = (t ≢ Plus) × PartStops p t
SumStops (Two p q) t = (t ≢ Plus) × PartStops q t
SumStops (Three p q r) t = PartStops r t

abbrev pub ConditionStops : Condition → Terminal → Type 0
ConditionStops c t = SumStops c.right t
