-- What the readers of rules ensure.
use Rattle.std.specs.Prelude.{◌≡◌, ℕ, ◌+◌, List, [], ◌∷◌, Ok, Err, Result}
use Rattle.book.specs.declared.places.Nodes.{Nodes}
use Rattle.book.specs.declared.places.Place.{Place}
use Rattle.book.specs.declared.openings.Opening.{Opening}
use Rattle.book.specs.declared.openings.Opening.TheVariants as opening
use Rattle.book.specs.declared.refusals.Refusal.{Refusal}
use Rattle.book.specs.declared.rules.Rule as held
use Rattle.book.specs.declared.terms.BracketKind.{BracketKind}
use Rattle.book.specs.declared.terminals.Terminal.{Terminal}
use Rattle.book.specs.declared.terminals.Terminal.TheVariants.{Duty, Trigger, Joint, Open}
use Rattle.book.specs.Sets.{Letters}
use Rattle.book.specs.Rules.{Rule}
use Rattle.book.specs.Grammar.{Item, item, mark, starts, Spot, spot, started, rule_items}
use Rattle.book.specs.Sizes.{nodes as size}
use Rattle.book.specs.Text.{Lexeme}
use Rattle.book.specs.Reading.{Reads}
use Rattle.book.specs.Readers.{ToldBy}
use Rattle.book.specs.Trees.{pure_rule}

-- where a rule begins
abbrev pub spot_at : Place → Nodes → Spot
spot_at p n = spot p.rule n.begun p.around p.bound

-- where a rule begins inside a node at p, where the letters ls are bound
abbrev pub inside : Place → Nodes → Letters → Spot
inside p n ls = spot p.rule n.begun (p.around + 1) ls

abbrev pub joint_items : BracketKind → List Item
joint_items k = mark (Joint k) ∷ []

abbrev pub opening_terminal : Opening → Terminal
opening_terminal (opening.Duty k) = Duty k
opening_terminal (opening.Trigger k) = Trigger k
opening_terminal opening.Bracket = Open

-- the first token of a rule in the k-th rule of the book, after n nodes and inside d of them
abbrev pub opening_items : ℕ → ℕ → ℕ → Opening → List Item
opening_items k n d o = item (opening_terminal o) (starts k (n + 1) (d + 1)) ∷ []

-- The rest of a rule at s was read, of which t is the first token.
abbrev pub Continued : Spot → Terminal → List Lexeme → Result held.Rule Refusal → List Lexeme → Type 0
Continued s t here r to = (from : List Lexeme) → Reads from (item t (started s) ∷ []) here → ToldBy held.Rule Rule pure_rule (rule_items s) from r to

-- A rule was read after the nodes n, and the nodes m have begun now.
abbrev pub Counted : Nodes → Result held.Rule Refusal → Nodes → Type 0
Counted n (Ok x) m = m.begun ≡ n.begun + size (pure_rule x)
Counted n (Err e) m = Unit {0}
