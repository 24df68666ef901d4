use Rattle.std.proofs.Common.{rules}
use Rattle.runs.proofs.Audits.{audited}
use Rattle.runs.proofs.pairs.audit_both.Goals as goal

pub returns : goal.returns
returns g c = audited _ _ _ _ _ _ _ _ c.in_ok-first.ensures c.in_ok-second.ensures (search rules) (search rules) c.make_turns.ensures.made
