use Rattle.std.proofs.Common.{sym}
use Rattle.book.specs.Trees.{pure_rule}
use Rattle.duty.proofs.Ways.{closed_acts}
use Rattle.duty.proofs.steps.close_each.Goals as goal

pub returns-in-Acts-default : goal.returns-in-Acts-default
returns-in-Acts-default c n lev f ds e =
    closed_acts (pure_rule c.args.duty.now) n lev c.args.inner f c.in-Acts-default.letters ds c.args.count c.args.draft.now c.open_rule.new.draft c.args.effect (sym c.in-Acts-default.is-0) c.open_rule.ensures
