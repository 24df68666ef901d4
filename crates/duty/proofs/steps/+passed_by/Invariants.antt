use Rattle.book.specs.Sizes.{nodes}
use Rattle.book.specs.Trees.{pure_rule}
use Rattle.duty.proofs.steps.+passed_by.Given as goal

abbrev pub decreases-passed_by : goal.decreases-passed_by
decreases-passed_by l = nodes (pure_rule l.rule.now)
