-- How large a rule is, and a book. Assumes nothing.
use Rattle.std.specs.Prelude.{ℕ, suc, ◌+◌, ◌≤◌, max, List, [], ◌∷◌, length}
use Rattle.book.specs.Rules.{Pattern, never, lines, Rule, duty, trigger, bracket}
use Rattle.book.specs.declared.terms.Part.{Part}
use Rattle.book.specs.declared.terms.Part.TheVariants.{Number, Bound, Product}
use Rattle.book.specs.declared.terms.Sum.{Sum}
use Rattle.book.specs.declared.terms.Sum.TheVariants.{One, Two, Three}
use Rattle.book.specs.declared.terms.Condition.{Condition}

-- how many nodes a rule has: its own, and those inside
abbrev pub nodes : Rule → ℕ
nodes (duty k p q) = 1
nodes (trigger k p q s) = suc (nodes s)
nodes (bracket k r s) = suc (nodes r + nodes s)

abbrev pub all_nodes : List Rule → ℕ
all_nodes [] = 0
all_nodes (r ∷ rs) = nodes r + all_nodes rs

-- how many nodes of a rule stand inside one another
abbrev pub depth : Rule → ℕ
depth (duty k p q) = 1
depth (trigger k p q s) = suc (depth s)
depth (bracket k r s) = suc (max (depth r) (depth s))

abbrev pub deepest : List Rule → ℕ
deepest [] = 0
deepest (r ∷ rs) = max (depth r) (deepest rs)

-- the largest number in the conditions
abbrev pub part_number : Part → ℕ
part_number (Number x) = x
part_number (Bound a) = 0
part_number (Product x a) = x

abbrev pub sum_number : Sum → ℕ
sum_number (One x) = part_number x
sum_number (Two x y) = max (part_number x) (part_number y)
sum_number (Three x y z) = max (part_number x) (max (part_number y) (part_number z))

abbrev pub conditions_number : List Condition → ℕ
conditions_number [] = 0
conditions_number (c ∷ cs) = max (max (sum_number c.left) (sum_number c.right)) (conditions_number cs)

abbrev pub pattern_number : Pattern → ℕ
pattern_number never = 0
pattern_number (lines bs cs) = conditions_number cs

abbrev pub rule_number : Rule → ℕ
rule_number (duty k p q) = max (pattern_number p) (pattern_number q)
rule_number (trigger k p q s) = max (max (pattern_number p) (pattern_number q)) (rule_number s)
rule_number (bracket k r s) = max (rule_number r) (rule_number s)

abbrev pub largest : List Rule → ℕ
largest [] = 0
largest (r ∷ rs) = max (rule_number r) (largest rs)

-- what the limits of a book come to
pub record WithinLimits (rs : List Rule) : Type 0 where
  pub count : length rs ≤ 16
  pub size : all_nodes rs ≤ 64
  pub nesting : deepest rs ≤ 8
  pub numbers : largest rs ≤ 9999999
