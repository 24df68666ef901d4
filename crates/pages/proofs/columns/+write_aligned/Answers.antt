use Rattle.std.proofs.Common.{arith}
use Rattle.std.proofs.lemmas.Grind.{common_steps}
use Rattle.pages.proofs.Aligns.{aligned_more, aligned-nil}
use Rattle.pages.proofs.columns.+write_aligned.Goals as goal

pub returns-in-Some : goal.returns-in-Some
returns-in-Some t c =
    aligned_more _ _ _ c.args.number _ _ c.write_aligned.ensures c.last_byte.ensures c.in_front.ensures (omega (arith, c.in-Some.ensures.cases.1))

pub returns-in_default : goal.returns-in_default
returns-in_default t c = aligned-nil _ c.args.number (grind (arith, common_steps, c.in_default.ensures.variant))
