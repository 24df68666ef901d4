use Rattle.book.proofs.Codes.{same_tokens}
use Rattle.book.proofs.Counting.{in_order}
use Rattle.book.proofs.Either.{whole}
use Rattle.book.proofs.Once.{one_book, apart, one_fault}
use Rattle.book.proofs.exact.exact.Goals as goal

pub returns : goal.returns
returns c = record { one_book = one_book; apart = apart; one_fault = one_fault; whole = whole; same_tokens = same_tokens; in_order = in_order }
