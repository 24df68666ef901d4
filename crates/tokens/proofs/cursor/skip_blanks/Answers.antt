use Rattle.std.proofs.lemmas.List.{take_rest}
use Rattle.tokens.proofs.Lexing.{past_blanks, behind_blanks}
use Rattle.tokens.proofs.cursor.skip_blanks.Goals as goal

pub returns-clause-same : goal.returns-clause-same
returns-clause-same c = past_blanks _ _ _ _ (take_rest c.args.text.now c.args.from) c.run_len.ensures.run

pub returns-clause-stops : goal.returns-clause-stops
returns-clause-stops c = behind_blanks _ _ _ _ (take_rest c.args.text.now c.args.from) c.run_len.ensures.run
