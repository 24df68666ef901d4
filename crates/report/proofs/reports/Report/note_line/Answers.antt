use Rattle.std.proofs.Common.{refl}
use Rattle.report.proofs.Noted.{noted_sound}
use Rattle.report.proofs.reports.Report.note_line.Goals as goal

pub returns : goal.returns
returns c =
    λ xs reports. noted_sound xs c.args.self.now _ reports c.args.line c.saturating_add-self.ensures c.or-self.ensures refl refl
