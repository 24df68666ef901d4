use Rattle.std.proofs.Common.{arith, rules}
use Rattle.book.proofs.Lookups.{long_word, six_bytes, seven_bytes}
use Rattle.book.proofs.words.word_terminal.Goals as goal

pub returns-in_default-47 : goal.returns-in_default-47
returns-in_default-47 c = six_bytes c.args.w.now (omega (arith, c.in_default.len_at_least, c.in_default.len_below)) (search rules)

pub returns-in_default-58 : goal.returns-in_default-58
returns-in_default-58 c = seven_bytes c.args.w.now (omega (arith, c.in_default.len_at_least, c.in_default.len_below)) (search rules) (search rules) (search rules)

pub returns-in_default-64 : goal.returns-in_default-64
returns-in_default-64 c = seven_bytes c.args.w.now (omega (arith, c.in_default.len_at_least, c.in_default.len_below)) (search rules) (search rules) (search rules)

pub returns-in_default-66 : goal.returns-in_default-66
returns-in_default-66 c = long_word c.args.w.now c.in_default.len_at_least
