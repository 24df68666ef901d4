use Rattle.std.proofs.Common.{vec_items, refl, ◌∙◌, arith}
use Rattle.duty.proofs.Books.{opens_start, opens_on, opens_end, placed_at}
use Rattle.duty.proofs.judging.open_rules.Goals as goal

pub loop-rule-init : goal.loop-rule-init
loop-rule-init c = record { len = omega arith; capacity = refl; opened = opens_start (vec_items c.args.found.now.verdicts) c.args.found.now.sheet }

pub open_rule-requires : goal.open_rule-requires
open_rule-requires c = placed_at c.args.rules.now c.loop-rule.rule-index c.rule-item.result c.loop-rule-test.true c.rule-item.is c.requires.within

pub loop-rule-preserved : goal.loop-rule-preserved
loop-rule-preserved c =
    record {
      len = omega (arith, c.push_reserved.ensures.len, c.loop-rule.invariant.len);
      capacity = c.push_reserved.ensures.capacity ∙ c.loop-rule.invariant.capacity;
      opened =
          opens_on c.args.rules.now c.loop-rule.rule-index (vec_items c.args.found.now.verdicts) (vec_items c.loop-rule.found.verdicts) (vec_items c.push_reserved.new.self) c.args.found.now.sheet c.loop-rule.found.sheet c.open_rule.new.draft c.rule-item.result
          c.loop-rule-test.true c.rule-item.is c.loop-rule.invariant.opened c.open_rule.ensures c.push_reserved.ensures.items;
    }

pub returns-clause-all : goal.returns-clause-all
returns-clause-all c = opens_end c.args.rules.now c.loop-rule.rule-index (vec_items c.args.found.now.verdicts) (vec_items c.loop-rule.found.verdicts) c.args.found.now.sheet c.loop-rule.found.sheet c.loop-rule-test.false c.loop-rule.invariant.opened
