use Rattle.std.proofs.Common.{◌≡◌, ◌+◌, ◌-◌, take, drop, ap, ◌∙◌, arith}
use Rattle.feed.specs.Text.{column, field_text}
use Rattle.feed.proofs.text.Row.columns.Goals as goal

pub returns : goal.returns
returns c =
    let s = c.start_of-from.result in
    let w = c.width_of.result in
    let item = c.args.self.bytes.now in
    let span : s + w - s ≡ w = omega arith in
    let same : take (s + w - s) (drop s item) ≡ column c.args.field item = rw (span, c.start_of-from.ensures, c.width_of.ensures) in
    c.read.ensures ∙ ap field_text same
