-- The numbers of refusals. Assumes nothing.
use Rattle.std.specs.Prelude.{ℕ}
use Rattle.book.specs.declared.refusals.Reason.{Reason}
use Rattle.book.specs.declared.refusals.Reason.TheVariants.{TooLong, NoToken, BadNumber, NotAllowed, PastLimit, Twice, Unbound}

abbrev pub reason_number : Reason → ℕ
reason_number TooLong = 1
reason_number NoToken = 2
reason_number BadNumber = 3
reason_number NotAllowed = 4
reason_number PastLimit = 5
reason_number Twice = 6
reason_number Unbound = 7
