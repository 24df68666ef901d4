-- The numbers of a rule's nodes: from 1, in the order in which the nodes begin.
use Rattle.std.specs.Prelude.{◌≡◌, ℕ, zero, suc, ◌+◌, List, [], ◌∷◌, ◌++◌, map}
use Rattle.book.specs.Rules.{Rule, duty, trigger, bracket}
use Rattle.book.specs.Sizes.{nodes as size}

-- a node, which is a rule or a bracket, with its number
pub record Node : Type 0 where
  pub number : ℕ
  pub rule : Rule

abbrev pub node : ℕ → Rule → Node
node n r = record { number = n; rule = r }

abbrev pub nodes_from : ℕ → Rule → List Node
nodes_from n (duty k p q) = node n (duty k p q) ∷ []
nodes_from n (trigger k p q r) = node n (trigger k p q r) ∷ nodes_from (n + 1) r
nodes_from n (bracket k r t) = node n (bracket k r t) ∷ (nodes_from (n + 1) r ++ nodes_from (n + 1 + size r) t)

abbrev pub nodes_of : Rule → List Node
nodes_of = nodes_from 1

abbrev pub numbers : List Node → List ℕ
numbers = map (λ x. x.number)

-- k numbers from n on
abbrev pub counting : ℕ → ℕ → List ℕ
counting n zero = []
counting n (suc k) = n ∷ counting (n + 1) k

abbrev pub InOrder : Type 0
InOrder = (r : Rule) → numbers (nodes_of r) ≡ counting 1 (size r)
