use Rattle.std.proofs.Common.{◌≡◌, ◌^◌, ◌<◌, drop}
use Rattle.feed.specs.Text.{digits_from}
use Rattle.feed.proofs.text.Column.digits.Given as goal

abbrev pub invariant-loop-digit : goal.invariant-loop-digit
invariant-loop-digit l = record {
  small : l.n < 10 ^ l.digit-index;
  reads : digits_from 0 l.self.bytes.now ≡ digits_from l.n (drop l.digit-index l.self.bytes.now);
}
