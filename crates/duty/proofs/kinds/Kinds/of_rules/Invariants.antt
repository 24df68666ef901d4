use Rattle.std.proofs.Common.{take}
use Rattle.book.specs.Trees.{pure_rules}
use Rattle.duty.specs.Kinds.{CoversAll}
use Rattle.duty.proofs.kinds.Kinds.of_rules.Given as goal

abbrev pub invariant-loop-rule : goal.invariant-loop-rule
invariant-loop-rule l = CoversAll l.kinds (pure_rules (take l.rule-index l.rules))
