use Rattle.std.proofs.Common.{◌≡◌, ◌+◌, drop}
use Rattle.std.specs.List.{prefix_len}
use Rattle.tokens.proofs.cursor.run_len.Given as goal

abbrev pub invariant-loop-n : goal.invariant-loop-n
invariant-loop-n g l = prefix_len g.test l.bytes ≡ l.n + prefix_len g.test (drop l.n l.bytes)
