use Rattle.std.proofs.Common.{◌≡◌, ◌≤◌, drop}
use Rattle.book.specs.Text.{value_from}
use Rattle.book.proofs.words.number_terminal.Given as goal

abbrev pub invariant-loop-digit : goal.invariant-loop-digit
invariant-loop-digit l = record { small : l.value ≤ 9999999; value : value_from 0 l.w ≡ value_from l.value (drop l.digit-index l.w) }
