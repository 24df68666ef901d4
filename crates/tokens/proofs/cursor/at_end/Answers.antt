use Rattle.std.proofs.Common.{refl}
use Rattle.tokens.proofs.Lexing.{ended}
use Rattle.tokens.proofs.cursor.at_end.Goals as goal

pub returns : goal.returns
returns c = ended c.args.cur.now.text.now c.args.cur.now.pos c.skip_blanks-place.result _ refl c.skip_blanks-place.ensures.same c.skip_blanks-place.ensures.stops
