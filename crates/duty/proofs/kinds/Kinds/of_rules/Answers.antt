use Rattle.duty.proofs.Sets.{covers_more}
use Rattle.duty.proofs.kinds.Kinds.of_rules.Goals as goal

pub loop-rule-preserved : goal.loop-rule-preserved
loop-rule-preserved c = covers_more c.args.rules.now c.loop-rule.rule-index c.rule-item.result c.loop-rule.kinds c.add_rule.new.self c.loop-rule-test.true c.rule-item.is c.loop-rule.invariant c.add_rule.ensures
