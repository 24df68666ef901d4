use Rattle.std.proofs.Common.{sym}
use Rattle.book.specs.Trees.{pure_rule}
use Rattle.duty.proofs.Books.{pending-judged, untouched_judged, decided-judged}
use Rattle.duty.proofs.judging.judge_rule.Goals as goal

pub returns-in_default : goal.returns-in_default
returns-in_default c = decided-judged (pure_rule c.args.rule.now) c.args.line.now c.args.number c.args.entries c.args.verdict c.args.draft.now c.in_default.not-Pending

pub returns-then-not-has : goal.returns-then-not-has
returns-then-not-has c =
    untouched_judged (pure_rule c.args.rule.now) c.args.line.now c.args.number c.args.entries.now c.split_group.result.0.now c.split_group.result.1 c.args.verdict c.args.draft.now c.extend.new.self
    c.split_group.ensures.group c.split_group.ensures.rest c.extend.ensures (c.requires.covered c.args.line.now (sym c.if-not-has.ensures)) c.in-Pending.is

pub returns : goal.returns
returns c =
    pending-judged (pure_rule c.args.rule.now) c.args.line.now c.args.number c.args.entries.now c.split_group.result.0.now c.split_group.result.1 c.args.verdict c.verdict_at.result c.step_rule-outcome.result c.args.draft.now c.step_rule-outcome.new.draft
    c.split_group.ensures.group c.split_group.ensures.rest c.step_rule-outcome.ensures c.verdict_at.ensures c.in-Pending.is
