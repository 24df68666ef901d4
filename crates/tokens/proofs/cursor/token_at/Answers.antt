use Rattle.std.proofs.Common.{◌+◌, ◌-◌, Some, None, length, take, drop, sym, ap, ◌∙◌}
use Rattle.std.proofs.lemmas.List.{take_rest}
use Rattle.std.specs.List.{prefix_len}
use Rattle.tokens.specs.Text.{is_letter, is_digit}
use Rattle.tokens.proofs.Lexing.{word_step, number_step, symbol_step}
use Rattle.tokens.proofs.cursor.token_at.Goals as goal

pub returns-then-is_letter-clause-step : goal.returns-then-is_letter-clause-step
returns-then-is_letter-clause-step c =
    word_step c.args.text.now _ c.args.at (take_rest c.args.text.now c.args.at) c.requires.dark c.requires.within _ (ap (λ k. 1 + k) (c.run_len.ensures.run ∙ ap (prefix_len is_letter) (take_rest (take (length c.args.text.now - c.args.at) (drop c.args.at c.args.text.now)) 1))) (sym c.if-is_letter.ensures)

pub returns-then-is_digit-clause-step : goal.returns-then-is_digit-clause-step
returns-then-is_digit-clause-step c =
    number_step c.args.text.now _ c.args.at (take_rest c.args.text.now c.args.at) c.requires.dark c.requires.within _ (ap (λ k. 1 + k) (c.run_len-then-is_digit.ensures.run ∙ ap (prefix_len is_digit) (take_rest (take (length c.args.text.now - c.args.at) (drop c.args.at c.args.text.now)) 1))) (sym c.if-is_letter.ensures) (sym c.if-is_digit.ensures)

pub returns-in-Some-clause-step : goal.returns-in-Some-clause-step
returns-in-Some-clause-step c =
    symbol_step c.args.text.now _ c.args.at (take_rest c.args.text.now c.args.at) c.requires.dark c.requires.within (Some c.in-Some.symbol) (sym c.if-is_letter.ensures) (sym c.if-is_digit.ensures) c.in-Some.ensures

pub returns-in-None-clause-step : goal.returns-in-None-clause-step
returns-in-None-clause-step c =
    symbol_step c.args.text.now _ c.args.at (take_rest c.args.text.now c.args.at) c.requires.dark c.requires.within None (sym c.if-is_letter.ensures) (sym c.if-is_digit.ensures) c.in-None.ensures
