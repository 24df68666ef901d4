use Rattle.std.proofs.Common.{ap, ◌∙◌}
use Rattle.feed.specs.Waiting.{later}
use Rattle.auditor.proofs.Takings.{moves}
use Rattle.auditor.proofs.auditors.Auditor.take_one.Goals as goal

pub returns : goal.returns
returns g c = λ rs log h.
    let e = c.in_ok-admit.ensures rs log h in
    moves rs log _ _ c.in-Some.item c.admit.new.self c.in-Some.ensures.answer (c.drop_first.ensures.after ∙ ap later c.look.ensures.stays) e.0 e.1
