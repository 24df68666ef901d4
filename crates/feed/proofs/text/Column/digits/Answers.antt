use Rattle.std.proofs.Common.{arith}
use Rattle.feed.proofs.Columns.{small}
use Rattle.feed.proofs.text.Column.digits.Goals as goal

pub overflow_mul-n : goal.overflow_mul-n
overflow_mul-n c = omega (arith, small c.loop-digit.digit-index c.loop-digit.n (omega arith) c.loop-digit.invariant.small)

pub overflow_add-n : goal.overflow_add-n
overflow_add-n c = omega (arith, small c.loop-digit.digit-index c.loop-digit.n (omega arith) c.loop-digit.invariant.small)
