use Rattle.std.proofs.Common.{◌≡◌, ◌+◌, [], take, vec_items, vec_len, vec_capacity}
use Rattle.book.specs.Trees.{pure_rules}
use Rattle.duty.specs.Judging.{JudgedRules}
use Rattle.duty.proofs.judging.open_rules.Given as goal

abbrev pub invariant-loop-rule : goal.invariant-loop-rule
invariant-loop-rule l =
    record {
      len : vec_len l.found.verdicts ≡ vec_len l.initial.found.verdicts + l.rule-index;
      capacity : vec_capacity l.found.verdicts ≡ vec_capacity l.initial.found.verdicts;
      opened : JudgedRules (pure_rules (take l.rule-index l.rules)) [] (vec_items l.initial.found.verdicts) (vec_items l.found.verdicts) l.initial.found.sheet l.found.sheet;
    }
