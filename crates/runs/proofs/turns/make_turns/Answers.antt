use Rattle.std.proofs.Common.{◌∙◌, arith}
use Rattle.runs.proofs.Turning.{one_made}
use Rattle.runs.proofs.turns.make_turns.Goals as goal

pub loop-turn-preserved : goal.loop-turn-preserved
loop-turn-preserved g c = record {
  left = c.make_noted.ensures.left ∙ c.loop-turn.invariant.left;
  right = c.make_noted.ensures.right ∙ c.loop-turn.invariant.right;
  made = λ b h.
      let so = c.loop-turn.invariant.made b h in
      one_made b _ _ _ _ _ _ _ so c.turn-item.result c.make_noted.new.turn _ _ _ (omega arith) (c.make_noted.ensures.made so.b' so.agree);
}
