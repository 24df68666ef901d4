use Rattle.book.specs.Sizes.{nodes}
use Rattle.book.specs.Trees.{pure_rule}
use Rattle.duty.proofs.kinds.Kinds.+add_rule.Given as goal

abbrev pub decreases-add_rule : goal.decreases-add_rule
decreases-add_rule l = nodes (pure_rule l.rule.now)
