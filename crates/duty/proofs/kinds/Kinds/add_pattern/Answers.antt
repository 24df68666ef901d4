use Rattle.std.proofs.Common.{true, is_some, sym, ap, ◌∙◌}
use lib.ListN.{get_or-replicate}
use borrow.Author.Tests.{clash}
use Rattle.duty.proofs.Matches.{never-none, lines-never}
use Rattle.duty.proofs.Sets.{kind_below}
use Rattle.duty.proofs.kinds.Kinds.add_pattern.Goals as goal

pub returns-in-Never : goal.returns-in-Never
returns-in-Never c l out = (out, λ f. ap is_some (never-none c.args.pattern.now l f c.in-Never.is))

pub returns-in-Some : goal.returns-in-Some
returns-in-Some c l out =
    let a = c.add.ensures l.kind (kind_below l) out in
    (a.0, λ f. ap is_some (lines-never c.args.pattern.now c.in-Lines.binders c.in-Lines.conditions c.deref.result.now l f c.in-Lines.is c.deref.ensures.value (c.in-Some.ensures l a.1 f)))

pub returns-in-None : goal.returns-in-None
returns-in-None c l out = absurd (clash (sym out ∙ get_or-replicate 1000 l.kind true true (kind_below l)))
