use Rattle.std.proofs.Common.{refl}
use Rattle.feed.specs.Lines.{limited, line_of}
use Rattle.duty.specs.Matching.{matches, effect}
use Rattle.duty.specs.Verdicts.{V}
use Rattle.duty.specs.Sheet.{sheet}
use Rattle.duty.specs.Worked.{WorkedLogs}

pub worked : WorkedLogs
unfolding matches effect V sheet limited line_of
worked =
    record {
      log1 = refl;
      log2 = refl;
      log3 = refl;
      log4 = refl;
      log5 = refl;
      log6 = refl;
      log7 = refl;
      log7_sheet = refl;
      log7_then = refl;
      log8 = refl;
      log9 = refl;
      log9_then = refl;
      log10 = refl;
      log10_then = refl;
      timed_verdict = refl;
      timed_sheet = refl;
      full = refl;
      over_full = refl;
      still_full = refl;
    }
