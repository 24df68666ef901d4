use Rattle.std.proofs.Common.{refl}
use Rattle.tokens.specs.Tokens.{tokens_at}
use Rattle.tokens.proofs.cursor.start.Goals as goal

pub returns : goal.returns
unfolding tokens_at
returns c = refl
