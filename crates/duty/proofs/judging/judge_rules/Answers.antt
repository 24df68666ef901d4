use Rattle.std.proofs.Common.{◌≡◌, [], refl, length, vec_items, inl, inr, sym, ap, ◌∙◌, subst, arith}
use Rattle.std.proofs.lemmas.List.{nil_from_length}
use Rattle.book.specs.Trees.{pure_rules}
use Rattle.duty.specs.Judging.{JudgesAll}
use Rattle.duty.proofs.Books.{judges_more, judges_none, within_rest, covers_rest}
use Rattle.duty.proofs.Sets.{each_long}
use Rattle.duty.proofs.judging.judge_rules.Goals as goal

pub loop-rule-preserved : goal.loop-rule-preserved
loop-rule-preserved c =
    let steps = c.in-Some.ensures.steps in
    let before = c.loop-rule.rule-iterator in
    let after = c.next.new.self in
    record {
      within = within_rest before.a.a.rest.now after.a.a.rest.now c.in-Some.rule.now steps.0.0 c.loop-rule.invariant.within;
      covered = covers_rest before.a.a.rest.now after.a.a.rest.now c.in-Some.rule.now before.a.b.rest.now after.a.b.rest.now c.in-Some.kinds.now steps.0.0 steps.0.1 c.loop-rule.invariant.covered;
      judged = omega (arith, ap length steps.0.0, ap length steps.1, c.loop-rule.invariant.judged);
      len = omega (arith, ap length steps.0.0, c.push_reserved.ensures.len, c.loop-rule.invariant.len);
      capacity = c.push_reserved.ensures.capacity ∙ c.loop-rule.invariant.capacity;
      all = λ vs d h.
          c.loop-rule.invariant.all vs d
          (judges_more before.a.a.rest.now after.a.a.rest.now c.in-Some.rule.now before.b.rest.now after.b.rest.now c.in-Some.verdict.now c.loop-rule.rest.now c.judge_rule-judged.result.rest.now c.args.line.now c.args.number (vec_items c.loop-rule.next.verdicts) (vec_items c.push_reserved.new.self) vs
          c.loop-rule.next.sheet c.judge_rule-judged.new.draft d c.judge_rule-judged.result steps.0.0 steps.1 c.judge_rule-judged.ensures refl c.push_reserved.ensures.items h);
    }

none_left : (c : goal.In-None) → length c.loop-rule.rule-iterator.a.a.rest.now ≡ 0
none_left c =
    let each = each_long c.loop-rule.rule-iterator.a.b.rest.now c.loop-rule.rule-iterator.a.a.rest.now c.loop-rule.invariant.covered in
    elim c.in-None.ensures.steps [
      | inl z ↦ elim z.1 [ inl y ↦ y.1.0 | inr y ↦ omega (arith, y.1.0) ]
      | inr y ↦ omega (arith, y.1.0, c.loop-rule.invariant.judged)
    ]

pub returns-clause-len : goal.returns-clause-len
returns-clause-len c = omega (arith, none_left c, c.loop-rule.invariant.len)

pub returns-clause-all : goal.returns-clause-all
returns-clause-all c =
    let e : c.loop-rule.rule-iterator.a.a.rest.now ≡ [] = nil_from_length _ (none_left c) in
    c.loop-rule.invariant.all (vec_items c.loop-rule.next.verdicts) c.loop-rule.next.sheet
    (subst (λ x. JudgesAll (pure_rules x) c.loop-rule.rule-iterator.b.rest.now c.loop-rule.rest.now c.args.line.now c.args.number (vec_items c.loop-rule.next.verdicts) c.loop-rule.next.sheet (vec_items c.loop-rule.next.verdicts) c.loop-rule.next.sheet) (sym e) (judges_none _ _ _ _ _ _))
