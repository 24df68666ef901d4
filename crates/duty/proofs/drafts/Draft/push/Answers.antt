use Rattle.std.proofs.Common.{arith}
use Rattle.duty.proofs.Written.{stored, full}
use Rattle.duty.proofs.drafts.Draft.push.Goals as goal

pub returns-then-len-le-PLACES : goal.returns-then-len-le-PLACES
returns-then-len-le-PLACES c es h = stored es _ _ c.args.entry h (omega (arith, c.args.self.now.entries.ok.0)) c.push_reserved.ensures.items

pub returns-else-len-le-PLACES : goal.returns-else-len-le-PLACES
returns-else-len-le-PLACES c es h = full es _ c.args.entry h (omega (arith, c.args.self.now.entries.ok.0))
