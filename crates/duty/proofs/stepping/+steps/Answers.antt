use Rattle.std.proofs.Common.{◌≡◌, ℕ, ◌+◌, ◌<◌, ◌≤◌, false, [], ◌∷◌, length, sym, ap, ◌∙◌, subst, arith, rules, true-eqb, false-eqb}
use Rattle.book.specs.Rules as pure
use Rattle.book.specs.Trees.{pure_pattern, pure_rule}
use Rattle.book.specs.declared.terms.TriggerKind.TheVariants.{Each, Once}
use Rattle.book.specs.declared.terms.BracketKind.TheVariants.{Else, And}
use Rattle.duty.specs.Drafts.{Adds, Cuts}
use Rattle.duty.specs.Matching.{effect}
use Rattle.duty.specs.Open.{each_effect, start, entries}
use Rattle.duty.specs.Sheet.{entry}
use Rattle.duty.specs.declared.drafts.Draft.{Draft}
use Rattle.duty.specs.Stepping.{StepsAt, Closes}
use Rattle.duty.proofs.ByKind.{some-entry, duty-step, once_waits, once_runs, else_second, else_first, else_met, else_breached, else_open, and_two, and_left, and_right, left_part, right_part, both_stepped, both_open, both-breached, both-met, one_left, one_right, each_watched, each-breached, each_closed}
use Rattle.duty.specs.declared.outcomes.Outcome.TheVariants.{Satisfied, Breached, Open as StillOpen}
use Rattle.duty.proofs.Passing.{all_kept}
use Rattle.duty.proofs.Loops as loops
use Rattle.duty.proofs.stepping.+steps.Goals as goal

-- a count that was read
back : (d d' : Draft) (n m : ℕ) → n ≡ m → Cuts n d d' → Cuts m d d'
back d d' n m e h = subst (λ k. Cuts k d d') e h

pub step_and-returns-then-node-place : goal.step_and-returns-then-node-place
step_and-returns-then-node-place t c =
    and_two (pure_rule c.args.left.now) (pure_rule c.args.right.now) c.args.place c.args.group.entries.now c.args.line.now c.args.draft.now c.step_both.new.draft c.step_both.result (ap (λ e. e.node) (sym c.head.ensures) ∙ c.if-node-place.true) c.step_both.ensures

pub step_and-returns-then-node-other : goal.step_and-returns-then-node-other
step_and-returns-then-node-other t c =
    and_left (pure_rule c.args.left.now) (pure_rule c.args.right.now) c.args.place.node c.args.place.level c.inside-other.result.node c.inside.result c.args.group.entries.now c.args.line.now c.args.draft.now c.step_rule.new.draft c.step_rule.result
    (λ e. c.if-node-place.false (ap (λ e. e.node) c.head.ensures ∙ e)) (c.inside-other.ensures.node ∙ ap (λ x. c.args.place.node + (1 + x)) c.count_nodes.ensures) (subst (λ e. e.node < c.inside-other.result.node) c.head.ensures c.if-node-other.true) c.inside.ensures.node c.inside.ensures.level c.step_rule.ensures

pub step_and-returns-else-node-other : goal.step_and-returns-else-node-other
step_and-returns-else-node-other t c =
    and_right (pure_rule c.args.left.now) (pure_rule c.args.right.now) c.args.place.node c.args.place.level c.inside-other.result c.args.group.entries.now c.args.line.now c.args.draft.now c.step_rule-else-node-other.new.draft c.step_rule-else-node-other.result
    (λ e. c.if-node-place.false (ap (λ e. e.node) c.head.ensures ∙ e)) (subst (λ e. c.inside-other.result.node ≤ e.node) c.head.ensures c.if-node-other.false) (c.inside-other.ensures.node ∙ ap (λ x. c.args.place.node + (1 + x)) c.count_nodes.ensures) c.inside-other.ensures.level c.step_rule-else-node-other.ensures

pub step_both-returns-in-Both : goal.step_both-returns-in-Both
step_both-returns-in-Both t c lev f o o' e =
    let r = pure_rule c.args.left.now in
    let s = pure_rule c.args.right.now in
    let p = c.args.place in
    let g = c.args.group.entries.now in
    let l = c.args.line.now in
    let first = c.split_group.result.0.now in
    let second = c.split_group.result.1.now in
    let d₁ = c.write.new.self in
    let d₂ = c.step_rule-a.new.draft in
    let d₃ = c.step_rule-b.new.draft in
    let ahead = c.below-3.ensures.node ∙ ap (λ x. p.node + (1 + x)) c.count_nodes-ahead.ensures in
    let w = both_stepped r s p g _ first second c.below.ensures c.split_group.ensures.group c.split_group.ensures.rest lev f o o' e l c.below-2.result c.below-3.result c.args.draft.now d₁ d₂ d₃ c.step_rule-a.result c.step_rule-b.result
    c.head.result.now c.head.ensures c.write.ensures c.below-2.ensures.node c.below-2.ensures.level ahead c.below-3.ensures.level c.step_rule-a.ensures c.step_rule-b.ensures in
    both_open r s p c.below-2.result c.below-3.result l f o o' c.args.draft.now d₁ d₂ d₃ c.step_rule-a.result c.step_rule-b.result w c.sides_of.result c.sides_of.ensures c.in-Both.is

pub step_both-returns-in-Breached : goal.step_both-returns-in-Breached
step_both-returns-in-Breached t c lev f o o' e =
    let r = pure_rule c.args.left.now in
    let s = pure_rule c.args.right.now in
    let p = c.args.place in
    let g = c.args.group.entries.now in
    let l = c.args.line.now in
    let first = c.split_group.result.0.now in
    let second = c.split_group.result.1.now in
    let d₁ = c.write.new.self in
    let d₂ = c.step_rule-a.new.draft in
    let d₃ = c.step_rule-b.new.draft in
    let ahead = c.below-3.ensures.node ∙ ap (λ x. p.node + (1 + x)) c.count_nodes-ahead.ensures in
    let w = both_stepped r s p g _ first second c.below.ensures c.split_group.ensures.group c.split_group.ensures.rest lev f o o' e l c.below-2.result c.below-3.result c.args.draft.now d₁ d₂ d₃ c.step_rule-a.result c.step_rule-b.result
    c.head.result.now c.head.ensures c.write.ensures c.below-2.ensures.node c.below-2.ensures.level ahead c.below-3.ensures.level c.step_rule-a.ensures c.step_rule-b.ensures in
    both-breached r s p c.below-2.result c.below-3.result l f o o' c.args.draft.now d₁ d₂ d₃ c.step_rule-a.result c.step_rule-b.result w c.sides_of.result c.sides_of.ensures c.cut.new.self (back d₃ c.cut.new.self _ _ c.count-count.ensures c.cut.ensures) c.in-Breached.is

pub step_both-returns-in-Satisfied : goal.step_both-returns-in-Satisfied
step_both-returns-in-Satisfied t c lev f o o' e =
    let r = pure_rule c.args.left.now in
    let s = pure_rule c.args.right.now in
    let p = c.args.place in
    let g = c.args.group.entries.now in
    let l = c.args.line.now in
    let first = c.split_group.result.0.now in
    let second = c.split_group.result.1.now in
    let d₁ = c.write.new.self in
    let d₂ = c.step_rule-a.new.draft in
    let d₃ = c.step_rule-b.new.draft in
    let ahead = c.below-3.ensures.node ∙ ap (λ x. p.node + (1 + x)) c.count_nodes-ahead.ensures in
    let w = both_stepped r s p g _ first second c.below.ensures c.split_group.ensures.group c.split_group.ensures.rest lev f o o' e l c.below-2.result c.below-3.result c.args.draft.now d₁ d₂ d₃ c.step_rule-a.result c.step_rule-b.result
    c.head.result.now c.head.ensures c.write.ensures c.below-2.ensures.node c.below-2.ensures.level ahead c.below-3.ensures.level c.step_rule-a.ensures c.step_rule-b.ensures in
    both-met r s p c.below-2.result c.below-3.result l f o o' c.args.draft.now d₁ d₂ d₃ c.step_rule-a.result c.step_rule-b.result w c.sides_of.result c.sides_of.ensures c.cut-in-Satisfied.new.self (back d₃ c.cut-in-Satisfied.new.self _ _ c.count-count.ensures c.cut-in-Satisfied.ensures) c.in-Satisfied.is

pub step_both-returns-in-Left : goal.step_both-returns-in-Left
step_both-returns-in-Left t c lev f o o' e =
    let r = pure_rule c.args.left.now in
    let s = pure_rule c.args.right.now in
    let p = c.args.place in
    let g = c.args.group.entries.now in
    let l = c.args.line.now in
    let first = c.split_group.result.0.now in
    let second = c.split_group.result.1.now in
    let d₁ = c.write.new.self in
    let d₂ = c.step_rule-a.new.draft in
    let d₃ = c.step_rule-b.new.draft in
    let ahead = c.below-3.ensures.node ∙ ap (λ x. p.node + (1 + x)) c.count_nodes-ahead.ensures in
    let w = both_stepped r s p g _ first second c.below.ensures c.split_group.ensures.group c.split_group.ensures.rest lev f o o' e l c.below-2.result c.below-3.result c.args.draft.now d₁ d₂ d₃ c.step_rule-a.result c.step_rule-b.result
    c.head.result.now c.head.ensures c.write.ensures c.below-2.ensures.node c.below-2.ensures.level ahead c.below-3.ensures.level c.step_rule-a.ensures c.step_rule-b.ensures in
    one_left r s p c.below-2.result c.below-3.result l f o o' c.args.draft.now d₁ d₂ d₃ c.step_rule-a.result c.step_rule-b.result w c.sides_of.result c.sides_of.ensures c.cut-in-Left.new.self (back d₃ c.cut-in-Left.new.self _ _ c.count-count.ensures c.cut-in-Left.ensures) c.in-Left.is c.inside.result c.step_rule.new.draft c.step_rule.result c.inside.ensures.node c.inside.ensures.level
    (left_part r s p g _ first second c.below.ensures c.split_group.ensures.group c.split_group.ensures.rest lev f o o' e l c.inside.result c.cut-in-Left.new.self c.step_rule.new.draft c.step_rule.result c.inside.ensures.node c.step_rule.ensures)

pub step_both-returns-in-Right : goal.step_both-returns-in-Right
step_both-returns-in-Right t c lev f o o' e =
    let r = pure_rule c.args.left.now in
    let s = pure_rule c.args.right.now in
    let p = c.args.place in
    let g = c.args.group.entries.now in
    let l = c.args.line.now in
    let first = c.split_group.result.0.now in
    let second = c.split_group.result.1.now in
    let d₁ = c.write.new.self in
    let d₂ = c.step_rule-a.new.draft in
    let d₃ = c.step_rule-b.new.draft in
    let ahead = c.below-3.ensures.node ∙ ap (λ x. p.node + (1 + x)) c.count_nodes-ahead.ensures in
    let w = both_stepped r s p g _ first second c.below.ensures c.split_group.ensures.group c.split_group.ensures.rest lev f o o' e l c.below-2.result c.below-3.result c.args.draft.now d₁ d₂ d₃ c.step_rule-a.result c.step_rule-b.result
    c.head.result.now c.head.ensures c.write.ensures c.below-2.ensures.node c.below-2.ensures.level ahead c.below-3.ensures.level c.step_rule-a.ensures c.step_rule-b.ensures in
    let there = c.inside-in-Right.ensures.node ∙ ap (λ x. p.node + (1 + x)) c.count_nodes-ahead.ensures in
    one_right r s p c.below-2.result c.below-3.result l f o o' c.args.draft.now d₁ d₂ d₃ c.step_rule-a.result c.step_rule-b.result w c.sides_of.result c.sides_of.ensures c.cut-in-Right.new.self (back d₃ c.cut-in-Right.new.self _ _ c.count-count.ensures c.cut-in-Right.ensures) c.in-Right.is c.inside-in-Right.result c.step_rule-in-Right.new.draft c.step_rule-in-Right.result there c.inside-in-Right.ensures.level
    (right_part r s p g _ first second c.below.ensures c.split_group.ensures.group c.split_group.ensures.rest lev f o o' e l c.inside-in-Right.result c.cut-in-Right.new.self c.step_rule-in-Right.new.draft c.step_rule-in-Right.result there c.step_rule-in-Right.ensures)

pub step_duties-returns-then-stands_at : goal.step_duties-returns-then-stands_at
step_duties-returns-then-stands_at t c =
    all_kept (pure_rule c.args.duty.now) c.args.place.node c.args.place.level c.args.line.now c.args.below.now c.args.draft.now c.keep_duties.new.draft c.keep_duties.result (c.if-passed_by.ensures tt) (c.if-stands_at.ensures tt) c.keep_duties.ensures.answer c.keep_duties.ensures.written

pub step_duties-loop-rest-init : goal.step_duties-loop-rest-init
step_duties-loop-rest-init t c = loops.starts (pure_rule c.args.duty.now) c.args.place c.args.below.now c.args.line.now c.args.draft.now

pub step_duties-returns-in-Breached : goal.step_duties-returns-in-Breached
step_duties-returns-in-Breached t c lev ds e =
    let some = false-eqb (length c.loop-rest.rest.now) 0 c.loop-rest-test.ensures in
    loops.turn_breached (pure_rule c.args.duty.now) c.args.place lev c.split_group.result.1.now ds c.args.line.now c.args.draft.now c.loop-rest.draft c.step_rule.new.draft c.loop-rest.left
    (loops.turn (pure_rule c.args.duty.now) c.args.place c.args.below.now c.loop-rest.rest.now c.split_group.result.0.now c.split_group.result.1.now c.args.line.now c.args.draft.now c.loop-rest.draft c.step_rule.new.draft c.loop-rest.left Breached c.loop-rest.invariant some c.split_group.ensures.group c.split_group.ensures.rest c.in-Breached.ensures lev ds e)

pub step_duties-loop-rest-preserved-in-Satisfied : goal.step_duties-loop-rest-preserved-in-Satisfied
step_duties-loop-rest-preserved-in-Satisfied t c lev ds e =
    let some = false-eqb (length c.loop-rest.rest.now) 0 c.loop-rest-test.ensures in
    loops.turn_met (pure_rule c.args.duty.now) c.args.place lev c.split_group.result.1.now ds c.args.line.now c.args.draft.now c.loop-rest.draft c.step_rule.new.draft c.loop-rest.left
    (loops.turn (pure_rule c.args.duty.now) c.args.place c.args.below.now c.loop-rest.rest.now c.split_group.result.0.now c.split_group.result.1.now c.args.line.now c.args.draft.now c.loop-rest.draft c.step_rule.new.draft c.loop-rest.left Satisfied c.loop-rest.invariant some c.split_group.ensures.group c.split_group.ensures.rest c.in-Satisfied.ensures lev ds e)

pub step_duties-loop-rest-preserved : goal.step_duties-loop-rest-preserved
step_duties-loop-rest-preserved t c lev ds e =
    let some = false-eqb (length c.loop-rest.rest.now) 0 c.loop-rest-test.ensures in
    loops.turn_open (pure_rule c.args.duty.now) c.args.place lev c.split_group.result.1.now ds c.args.line.now c.args.draft.now c.loop-rest.draft c.step_rule.new.draft c.loop-rest.left
    (loops.turn (pure_rule c.args.duty.now) c.args.place c.args.below.now c.loop-rest.rest.now c.split_group.result.0.now c.split_group.result.1.now c.args.line.now c.args.draft.now c.loop-rest.draft c.step_rule.new.draft c.loop-rest.left StillOpen c.loop-rest.invariant some c.split_group.ensures.group c.split_group.ensures.rest c.in-Open.ensures lev ds e)

pub step_duties-returns : goal.step_duties-returns
step_duties-returns t c =
    loops.ends (pure_rule c.args.duty.now) c.args.place c.args.below.now c.loop-rest.rest.now c.args.line.now c.args.draft.now c.loop-rest.draft c.loop-rest.left c.loop-rest.invariant (true-eqb (length c.loop-rest.rest.now) 0 c.loop-rest-test.ensures)

pub step_each-returns-in-Breached : goal.step_each-returns-in-Breached
step_each-returns-in-Breached t c lev o e =
    let p = pure_pattern c.args.start.now in
    let q = pure_pattern c.args.end.now in
    let s = pure_rule c.args.duty.now in
    let g = c.args.group.entries.now in
    let l = c.args.line.now in
    each-breached p q s c.args.place.node c.args.place.level c.below-inner.result g l c.args.draft.now c.write.new.self c.step_duties.new.draft c.cut.new.self _ o c.write.ensures
    (each_watched p q s c.args.place.node c.below-inner.result g _ l c.write.new.self c.step_duties.new.draft _ c.below.ensures c.below-inner.ensures.node c.in-Breached.ensures lev o e) (back c.step_duties.new.draft c.cut.new.self _ _ c.count-count.ensures c.cut.ensures)

pub step_each-returns-in_default : goal.step_each-returns-in_default
step_each-returns-in_default t c lev o e =
    let p = pure_pattern c.args.start.now in
    let q = pure_pattern c.args.end.now in
    let s = pure_rule c.args.duty.now in
    let g = c.args.group.entries.now in
    let l = c.args.line.now in
    each_closed p q s c.args.place.node c.args.place.level c.below-inner.result g l c.args.draft.now c.write.new.self c.step_duties.new.draft c.close_each.new.draft c.each_effect-effect.result c.ends_each.result c.step_duties.result c.close_each.result o
    (subst (λ h. c.each_effect-effect.result ≡ each_effect h.mark (effect p q h.letters l)) c.head-head.ensures c.each_effect-effect.ensures) c.ends_each.ensures (subst (λ h. Adds c.args.draft.now c.write.new.self (entry c.args.place.node c.args.place.level c.ends_each.result h.letters ∷ [])) c.head-head.ensures c.write.ensures) c.below-inner.ensures.node c.below-inner.ensures.level
    (each_watched p q s c.args.place.node c.below-inner.result g _ l c.write.new.self c.step_duties.new.draft _ c.below.ensures c.below-inner.ensures.node c.step_duties.ensures lev o e)
    c.in_default.not-Breached
    (subst (λ k. Closes s c.below-inner.result c.each_effect-effect.result c.step_duties.result k c.step_duties.new.draft c.close_each.result c.close_each.new.draft) c.count-count.ensures c.close_each.ensures)

pub step_else-returns-then-head-place : goal.step_else-returns-then-head-place
step_else-returns-then-head-place t c =
    else_second (pure_rule c.args.first.now) (pure_rule c.args.second.now) c.args.place.node c.args.place.level c.inside-substitute.result c.args.group.entries.now c.args.line.now c.args.draft.now c.step_rule.new.draft c.step_rule.result
    (λ e. c.if-head-place.true (ap (λ e. e.node) c.head-head.ensures ∙ e)) (c.inside-substitute.ensures.node ∙ ap (λ x. c.args.place.node + (1 + x)) c.count_nodes.ensures) c.inside-substitute.ensures.level c.step_rule.ensures

pub step_else-returns-in-Satisfied : goal.step_else-returns-in-Satisfied
step_else-returns-in-Satisfied t c lev o e =
    let r = pure_rule c.args.first.now in
    let s = pure_rule c.args.second.now in
    let n = c.args.place.node in
    let L = c.args.place.level in
    let g = c.args.group.entries.now in
    let l = c.args.line.now in
    else_met r s n L c.below.result g l c.args.draft.now c.write.new.self c.step_rule-2.new.draft c.cut.new.self _ o c.write.ensures
    (else_first r s n L c.below.result g _ l c.write.new.self c.step_rule-2.new.draft _ (ap (λ e. e.node) (sym c.head-head.ensures) ∙ c.if-head-place.false) c.below-2.ensures c.below.ensures.node c.in-Satisfied.ensures lev o e) (back c.step_rule-2.new.draft c.cut.new.self _ _ c.count-count.ensures c.cut.ensures)

pub step_else-returns-in-Breached : goal.step_else-returns-in-Breached
step_else-returns-in-Breached t c lev o e =
    let r = pure_rule c.args.first.now in
    let s = pure_rule c.args.second.now in
    let n = c.args.place.node in
    let L = c.args.place.level in
    let g = c.args.group.entries.now in
    let l = c.args.line.now in
    else_breached r s n L c.below.result c.inside-substitute-in-Breached.result g l c.args.draft.now c.write.new.self c.step_rule-2.new.draft c.cut-in-Breached.new.self c.open_rule.new.draft _ o c.write.ensures
    (else_first r s n L c.below.result g _ l c.write.new.self c.step_rule-2.new.draft _ (ap (λ e. e.node) (sym c.head-head.ensures) ∙ c.if-head-place.false) c.below-2.ensures c.below.ensures.node c.in-Breached.ensures lev o e) (back c.step_rule-2.new.draft c.cut-in-Breached.new.self _ _ c.count-count.ensures c.cut-in-Breached.ensures)
    (c.inside-substitute-in-Breached.ensures.node ∙ ap (λ x. n + (1 + x)) c.count_nodes-in-Breached.ensures) c.inside-substitute-in-Breached.ensures.level (subst (λ h. Adds c.cut-in-Breached.new.self c.open_rule.new.draft (entries s c.inside-substitute-in-Breached.result.node c.inside-substitute-in-Breached.result.level (start s h.letters))) c.head-head.ensures c.open_rule.ensures)

pub step_else-returns-in-Open : goal.step_else-returns-in-Open
step_else-returns-in-Open t c lev o e =
    let r = pure_rule c.args.first.now in
    let s = pure_rule c.args.second.now in
    let n = c.args.place.node in
    let L = c.args.place.level in
    let g = c.args.group.entries.now in
    let l = c.args.line.now in
    else_open r s n L c.below.result g l c.args.draft.now c.write.new.self c.step_rule-2.new.draft o (subst (λ h. Adds c.args.draft.now c.write.new.self (entry n L false h.letters ∷ [])) c.head-head.ensures c.write.ensures)
    (else_first r s n L c.below.result g _ l c.write.new.self c.step_rule-2.new.draft _ (ap (λ e. e.node) (sym c.head-head.ensures) ∙ c.if-head-place.false) c.below-2.ensures c.below.ensures.node c.in-Open.ensures lev o e) c.below.ensures.node c.below.ensures.level

pub step_once-returns-then-head-place : goal.step_once-returns-then-head-place
step_once-returns-then-head-place t c =
    once_waits (pure_pattern c.args.start.now) (pure_pattern c.args.end.now) (pure_rule c.args.duty.now) c.args.place.node c.args.place.level c.args.group.entries.now c.head-head.result.now c.args.line.now c.args.draft.now c.step_waiting.new.draft c.step_waiting.result c.head-head.ensures c.if-head-place.true c.step_waiting.ensures

pub step_once-returns-else-head-place : goal.step_once-returns-else-head-place
step_once-returns-else-head-place t c =
    once_runs (pure_pattern c.args.start.now) (pure_pattern c.args.end.now) (pure_rule c.args.duty.now) c.args.place.node c.args.place.level c.inside.result c.args.group.entries.now c.args.line.now c.args.draft.now c.step_rule.new.draft c.step_rule.result (λ e. c.if-head-place.false (ap (λ e. e.node) c.head-head.ensures ∙ e)) c.inside.ensures.node c.inside.ensures.level c.step_rule.ensures

pub step_rule-returns-then-is_empty : goal.step_rule-returns-then-is_empty
step_rule-returns-then-is_empty t c lev o e =
    let some = some-entry (pure_rule c.args.rule.now) c.args.place.node lev o c.args.entries.now e in
    let none = true-eqb (length c.args.entries.now) 0 c.if-is_empty.ensures in
    absurd (omega arith)

pub step_rule-returns-in-Duty : goal.step_rule-returns-in-Duty
step_rule-returns-in-Duty t c =
    subst (λ r. StepsAt r c.args.place c.args.entries.now c.args.line.now c.args.draft.now c.step_duty.result c.step_duty.new.draft) (sym (ap pure_rule c.in-Duty.is))
    (duty-step c.in-Duty.kind (pure_pattern c.in-Duty.act) (pure_pattern c.in-Duty.deadline) c.args.place.node c.args.place.level c.args.entries.now c.head.result.now c.args.line.now c.args.draft.now c.step_duty.new.draft c.step_duty.result c.head.ensures c.step_duty.ensures)

pub step_rule-returns-in-Trigger-Each-default-default-default : goal.step_rule-returns-in-Trigger-Each-default-default-default
step_rule-returns-in-Trigger-Each-default-default-default t c =
    let at = c.in-Trigger-Each-default-default-default in
    let kind : at.field-0 ≡ Each = search rules in
    subst (λ r. StepsAt r c.args.place c.args.entries.now c.args.line.now c.args.draft.now c.step_each.result c.step_each.new.draft)
    (sym (ap pure_rule at.is ∙ (λ i. pure.trigger (kind i) (pure_pattern at.start) (pure_pattern at.end) (pure_rule (sym c.deref.ensures i)))))
    c.step_each.ensures

pub step_rule-returns-in-Trigger-Once-default-default-default : goal.step_rule-returns-in-Trigger-Once-default-default-default
step_rule-returns-in-Trigger-Once-default-default-default t c =
    let at = c.in-Trigger-Once-default-default-default in
    let kind : at.field-0 ≡ Once = search rules in
    subst (λ r. StepsAt r c.args.place c.args.entries.now c.args.line.now c.args.draft.now c.step_once.result c.step_once.new.draft)
    (sym (ap pure_rule at.is ∙ (λ i. pure.trigger (kind i) (pure_pattern at.start) (pure_pattern at.end) (pure_rule (sym c.deref-in-Trigger-Once-default-default-default.ensures i)))))
    c.step_once.ensures

pub step_rule-returns-in-Bracket-Else-default-default : goal.step_rule-returns-in-Bracket-Else-default-default
step_rule-returns-in-Bracket-Else-default-default t c =
    let at = c.in-Bracket-Else-default-default in
    let kind : at.field-0 ≡ Else = search rules in
    subst (λ r. StepsAt r c.args.place c.args.entries.now c.args.line.now c.args.draft.now c.step_else.result c.step_else.new.draft)
    (sym (ap pure_rule at.is ∙ (λ i. pure.bracket (kind i) (pure_rule (sym c.deref-in-Bracket-Else-default-default.ensures i)) (pure_rule (sym c.deref-in-Bracket-Else-default-default-2.ensures i)))))
    c.step_else.ensures

pub step_rule-returns-in-Bracket-And-default-default : goal.step_rule-returns-in-Bracket-And-default-default
step_rule-returns-in-Bracket-And-default-default t c =
    let at = c.in-Bracket-And-default-default in
    let kind : at.field-0 ≡ And = search rules in
    subst (λ r. StepsAt r c.args.place c.args.entries.now c.args.line.now c.args.draft.now c.step_and.result c.step_and.new.draft)
    (sym (ap pure_rule at.is ∙ (λ i. pure.bracket (kind i) (pure_rule (sym c.deref-in-Bracket-And-default-default.ensures i)) (pure_rule (sym c.deref-in-Bracket-And-default-default-2.ensures i)))))
    c.step_and.ensures
