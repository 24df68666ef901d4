use Rattle.std.proofs.Common.{◌*◌, length, ap, ◌∙◌, arith}
use Rattle.pages.proofs.RowsMade.{one_written, all_written}
use Rattle.pages.proofs.rows.write_rows.Goals as goal

pub loop-i-preserved : goal.loop-i-preserved
loop-i-preserved g c =
    one_written _ _ g.R.Row.WIDTH c.args.out.now c.args.rows.now c.loop-i.i _ c.rule-rule.result c.index-rows-i.result _ c.write.new.row _ _ c.loop-i.invariant (omega arith) c.index-rows-i.is c.rule-rule.ensures c.write.ensures
    (ap length c.write.ensures ∙ g.met.R.Row.wide _ _) (ap (λ w. w * c.loop-i.i) c.WIDTH.ensures) (omega (arith, c.WIDTH-in-loop-i.ensures))

pub returns : goal.returns
returns g c = all_written _ _ g.R.Row.WIDTH c.args.out.now c.args.rows.now c.loop-i.i _ _ c.loop-i.invariant (omega (arith, c.loop-i-test.false, c.loop-i.auto.i-end))
