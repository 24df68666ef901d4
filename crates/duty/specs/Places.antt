-- A rule at a place. Assumes nothing.
use Rattle.std.specs.Prelude.{◌+◌, ◌≤◌}
use Rattle.book.specs.Rules.{Rule}
use Rattle.book.specs.Sizes.{nodes, depth, rule_number}
use Rattle.duty.specs.declared.places.Place.{Place}

-- the place has room for the rule's nodes and levels, and the numbers of the rule are within their limit
pub record Placed (p : Place) (r : Rule) : Type 0 where
  pub deep : depth r ≤ p.budget
  pub levels : p.level + p.budget ≤ 255
  pub numbered : p.node + nodes r ≤ 255
  pub limited : rule_number r ≤ 9999999
