use Rattle.std.proofs.Common.{◌+◌, false, [], ◌∷◌, ◌++◌, sym, ap, ◌∙◌}
use Rattle.book.specs.Rules as pure
use Rattle.book.specs.Sizes.{nodes}
use Rattle.book.specs.Trees.{pure_rule}
use Rattle.duty.specs.Sheet.{entry}
use Rattle.duty.specs.Open.{start, entries}
use Rattle.duty.proofs.Written.{adds_as, adds_then}
use Rattle.duty.proofs.Opened.{else_kind, opened_else, opened_and, opened-rest}
use Rattle.duty.proofs.openings.+open_rule.Goals as goal

pub returns-in_default-kind : goal.returns-in_default-kind
returns-in_default-kind t c =
    let n = c.args.place.node in
    let lev = c.args.place.level in
    let f = c.args.letters.now in
    let r = pure_rule c.deref.result.now in
    let s = pure_rule c.in-Bracket.second.value in
    let is = ap pure_rule c.in-Bracket.is ∙ (λ i. pure.bracket c.in-Bracket.kind (pure_rule (sym c.deref.ensures i)) s) in
    let a = entry n lev false f ∷ [] in
    let b = entries r c.below.result.node c.below.result.level (start r f) in
    adds_as c.args.draft.now c.open_rule.new.draft (a ++ b) _
    (opened_else (pure_rule c.args.rule.now) r s c.in-Bracket.kind n lev c.below.result.node c.below.result.level f is (else_kind c.in-Bracket.kind c.in_default-kind.not-And) c.below.ensures.node c.below.ensures.level)
    (adds_then c.args.draft.now c.write.new.self c.open_rule.new.draft a b c.write.ensures c.open_rule.ensures)

pub returns-in-And : goal.returns-in-And
returns-in-And t c =
    let n = c.args.place.node in
    let lev = c.args.place.level in
    let f = c.args.letters.now in
    let r = pure_rule c.deref.result.now in
    let s = pure_rule c.deref-in-And-2.result.now in
    let is = ap pure_rule c.in-Bracket.is ∙ (λ i. pure.bracket c.in-Bracket.kind (pure_rule (sym c.deref.ensures i)) (pure_rule (sym c.deref-in-And-2.ensures i))) in
    let a = entry n lev false f ∷ [] in
    let b = entries r c.below.result.node c.below.result.level (start r f) in
    let d = entries s c.below-place.result.node c.below-place.result.level (start s f) in
    adds_as c.args.draft.now c.open_rule-in-And.new.draft (a ++ (b ++ d)) _
    (opened_and (pure_rule c.args.rule.now) r s c.in-Bracket.kind n lev c.below.result.node c.below.result.level c.below-place.result.node c.below-place.result.level f is c.in-And.is c.below.ensures.node c.below.ensures.level
    (c.below-place.ensures.node ∙ ap (λ x. n + (1 + x)) (c.count_nodes.ensures ∙ ap (λ x. nodes (pure_rule x)) (c.deref-in-And.ensures ∙ sym c.deref.ensures))) c.below-place.ensures.level)
    (adds_then c.args.draft.now c.write.new.self c.open_rule-in-And.new.draft a (b ++ d) c.write.ensures
    (adds_then c.write.new.self c.open_rule.new.draft c.open_rule-in-And.new.draft b d c.open_rule.ensures c.open_rule-in-And.ensures))

pub returns-in_default : goal.returns-in_default
returns-in_default t c =
    adds_as c.args.draft.now c.write.new.self _ _ (opened-rest c.args.rule.now c.args.place.node c.args.place.level c.args.letters.now c.in_default.not-Bracket) c.write.ensures
