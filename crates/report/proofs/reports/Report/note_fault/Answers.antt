use Rattle.std.proofs.Common.{refl}
use Rattle.report.proofs.Noted.{noted_fault}
use Rattle.report.proofs.reports.Report.note_fault.Goals as goal

pub returns : goal.returns
returns c =
    λ xs reports. noted_fault xs c.args.self.now _ reports c.args.fault refl refl refl c.in_ok-push.ensures.items
