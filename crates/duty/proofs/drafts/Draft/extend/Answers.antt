use Rattle.duty.proofs.Passing.{pushed_more, pushed_all}
use Rattle.duty.proofs.drafts.Draft.extend.Goals as goal

pub loop-entry-preserved : goal.loop-entry-preserved
loop-entry-preserved c = pushed_more c.args.entries.now c.loop-entry.entry-index c.args.self.now c.loop-entry.self c.push.new.self c.loop-entry-test.true c.loop-entry.invariant c.push.ensures

pub returns : goal.returns
returns c = pushed_all c.args.entries.now c.loop-entry.entry-index c.args.self.now c.loop-entry.self c.loop-entry-test.false c.loop-entry.invariant
