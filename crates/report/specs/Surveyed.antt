-- What a survey of a feed answers and leaves. Assumes nothing.
use Rattle.std.specs.Prelude.{◌≡◌, List, [], ◌++◌, Ok, Err, Result}
use Rattle.feed.specs.declared.faults.Item.{Item}
use Rattle.report.specs.Reported.{Reports}
use Rattle.report.specs.declared.reports.Report.{Report}

-- what waits at first is what was noted, and then what still waits
pub record Left (before after : List Item) : Type 0 where
  pub noted : List Item
  pub kept : before ≡ noted ++ after

-- the report is on all that waited, and nothing waits then; for want of memory some items still wait
abbrev pub Surveyed : {E : Type 0} → List Item → List Item → Result Report E → Type 0
Surveyed before after (Ok r) = Reports before r × (after ≡ [])
Surveyed before after (Err e) = Left before after
