use Rattle.tokens.specs.Text.{is_blank}
use Rattle.tokens.proofs.cursor.skip_blanks.Given as goal

abbrev pub ghost-run_len : goal.ghost-run_len
ghost-run_len a = is_blank
