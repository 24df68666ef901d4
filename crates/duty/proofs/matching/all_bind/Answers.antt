use Rattle.std.proofs.Common.{sym, ◌∙◌}
use Rattle.std.proofs.lemmas.List.{at_drop_all}
use Rattle.duty.specs.Matching.{bind}
use Rattle.duty.proofs.Matches.{bind-none, bind-some}
use Rattle.duty.proofs.matching.all_bind.Goals as goal

pub returns-then-not-binds : goal.returns-then-not-binds
returns-then-not-binds c = sym (c.loop-binder.invariant ∙ bind-none c.args.binders.now c.loop-binder.binder-index _ c.args.line.now c.loop-binder.letters c.loop-binder-test.true (sym c.if-not-binds.ensures))

pub loop-binder-preserved : goal.loop-binder-preserved
loop-binder-preserved c =
    c.loop-binder.invariant
    ∙ bind-some c.args.binders.now c.loop-binder.binder-index _ c.args.line.now c.loop-binder.letters c.binds.new.letters c.loop-binder-test.true (sym c.if-not-binds.ensures)

pub returns : goal.returns
returns c = sym (c.loop-binder.invariant ∙ at_drop_all (λ x. bind x c.args.line.now c.loop-binder.letters) c.args.binders.now c.loop-binder.binder-index c.loop-binder-test.false)
