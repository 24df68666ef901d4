use Rattle.tokens.specs.Text.{is_letter, is_digit}
use Rattle.tokens.proofs.cursor.token_at.Given as goal

abbrev pub ghost-run_len : goal.ghost-run_len
ghost-run_len a = is_letter

abbrev pub ghost-run_len-2 : goal.ghost-run_len-2
ghost-run_len-2 a = is_digit
