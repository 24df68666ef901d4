use Rattle.duty.proofs.Written.{cut}
use Rattle.duty.proofs.drafts.Draft.cut.Goals as goal

pub returns : goal.returns
returns c es more h k = cut es more _ _ c.args.count h k c.truncate.ensures.items
