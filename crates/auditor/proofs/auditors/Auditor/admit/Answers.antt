use Rattle.std.proofs.Common.{sym, subst, arith}
use Rattle.auditor.specs.Steps.{Admits}
use Rattle.auditor.proofs.Takings.{admits_sound}
use Rattle.auditor.proofs.auditors.Auditor.admit.Goals as goal

pub returns-in-Sound : goal.returns-in-Sound
returns-in-Sound c = λ rs log h.
    subst (λ i. Admits rs log i c.admit_line.result c.admit_line.new.self) (sym c.in-Sound.is)
    (admits_sound rs log c.in-Sound.line c.admit_line.result c.admit_line.new.self (omega (arith, h.held.counted)) (c.admit_line.ensures rs log h))
