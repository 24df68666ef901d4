use Rattle.runs.proofs.Turning.{noted}
use Rattle.runs.proofs.turns.make_noted.Goals as goal

pub returns-clause-made : goal.returns-clause-made
returns-clause-made g c =
    λ b h. noted b _ _ _ _ _ _ _ _ (c.make_at_side.ensures.made b h) c.note.ensures.seen c.note.ensures.left c.note.ensures.right
