use Rattle.std.proofs.Common.{◌+◌, ◌*◌, drop, sym, arith}
use Rattle.std.proofs.lemmas.Grind.{common_steps}
use Rattle.book.specs.Text.{number_of}
use Rattle.book.proofs.Bytes.{value_grows, too_large, in_range}
use Rattle.book.proofs.words.number_terminal.Goals as goal

pub returns-then-leads_with_zero : goal.returns-then-leads_with_zero
unfolding number_of
returns-then-leads_with_zero c = simp (sym c.if-leads_with_zero.ensures)

pub returns-then-value-gt-LARGEST : goal.returns-then-value-gt-LARGEST
returns-then-value-gt-LARGEST c =
    let grows = value_grows (drop (c.loop-digit.digit-index + 1) c.args.w.now) (c.loop-digit.value * 10 + c.from.result) in
    sym (too_large c.args.w.now (sym c.if-leads_with_zero.ensures) (grind (arith, common_steps)))

pub returns : goal.returns
returns c = sym (in_range c.args.w.now c.loop-digit.value (sym c.if-leads_with_zero.ensures) (grind (arith, common_steps)) c.loop-digit.invariant.small)
