use Rattle.book.specs.Sizes.{nodes}
use Rattle.book.specs.Trees.{pure_rule}
use Rattle.duty.proofs.openings.+count_nodes.Given as goal

abbrev pub decreases-count_nodes : goal.decreases-count_nodes
decreases-count_nodes l = nodes (pure_rule l.rule.now)
