use Rattle.std.proofs.Common.{◌≡◌, ◌+◌, List, length, vec_items, vec_len, vec_capacity}
use Rattle.book.specs.Sizes.{WithinLimits}
use Rattle.book.specs.Trees.{pure_rules}
use Rattle.duty.specs.Kinds.{CoversEach}
use Rattle.duty.specs.Judging.{JudgesAll}
use Rattle.duty.specs.declared.drafts.Draft.{Draft}
use Rattle.duty.specs.declared.verdicts.Verdict.{Verdict}
use Rattle.duty.proofs.judging.judge_rules.Given as goal

-- whatever judging the rules that are left comes to, judging all of them comes to
abbrev pub invariant-loop-rule : goal.invariant-loop-rule
invariant-loop-rule l =
    record {
      within : WithinLimits (pure_rules l.rule-iterator.a.a.rest.now);
      covered : CoversEach l.rule-iterator.a.b.rest.now (pure_rules l.rule-iterator.a.a.rest.now);
      judged : length l.rule-iterator.b.rest.now ≡ length l.rule-iterator.a.a.rest.now;
      len : vec_len l.next.verdicts + length l.rule-iterator.a.a.rest.now ≡ vec_len l.initial.next.verdicts + length l.rules;
      capacity : vec_capacity l.next.verdicts ≡ vec_capacity l.initial.next.verdicts;
      all : (vs : List Verdict) (d : Draft) → JudgesAll (pure_rules l.rule-iterator.a.a.rest.now) l.rule-iterator.b.rest.now l.rest l.line l.number (vec_items l.next.verdicts) l.next.sheet vs d → JudgesAll (pure_rules l.rules) (vec_items l.found.verdicts) (vec_items l.found.sheet.entries) l.line l.number (vec_items l.initial.next.verdicts) l.initial.next.sheet vs d;
    }
