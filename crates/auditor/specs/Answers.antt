-- What calls answer, by number. Assumes nothing.
use Rattle.std.specs.Prelude.{ℕ, List, Some, None, codes, Option}
use Rattle.feed.specs.Faults.{fault_numbers, fault_words}
use Rattle.feed.specs.declared.faults.FaultNumbers.{FaultNumbers}
use Rattle.auditor.specs.declared.answers.Refusal.{Refusal}
use Rattle.auditor.specs.declared.answers.Refusal.TheVariants.{Faulty, Backdated, SheetFull, LogFull, Count, ShortBuffer, NothingWaits}
use Rattle.auditor.specs.declared.answers.Stop.{Stop}
use Rattle.auditor.specs.declared.answers.Stop.TheVariants.{Done, Dry, Refused}

abbrev pub alone : ℕ → FaultNumbers
alone n = record { number = n; station = 0; item = 0; field = 0 }

-- all that is told of a refusal: its number, and of a faulty item also its station, its item number and its field; 0 where there
-- is none
abbrev pub refusal_numbers : Refusal → FaultNumbers
refusal_numbers (Faulty x) = fault_numbers x
refusal_numbers Backdated = alone 31
refusal_numbers SheetFull = alone 32
refusal_numbers LogFull = alone 33
refusal_numbers Count = alone 41
refusal_numbers ShortBuffer = alone 42
refusal_numbers NothingWaits = alone 43

abbrev pub refusal_words : Refusal → List ℕ
refusal_words (Faulty x) = fault_words x.kind
refusal_words Backdated = codes "the time is below that of the last line taken"
refusal_words SheetFull = codes "with this line the sheet would need more than 256 places"
refusal_words LogFull = codes "the log has 1,000,000 lines"
refusal_words Count = codes "a take is of 1 to 4,096 lines"
refusal_words ShortBuffer = codes "the buffer is shorter than the page"
refusal_words NothingWaits = codes "nothing waits to be skipped"

-- the refusal by which a take stopped; done and dry are none
abbrev pub stop_refusal : Stop → Option Refusal
stop_refusal Done = None
stop_refusal Dry = None
stop_refusal (Refused x) = Some x
