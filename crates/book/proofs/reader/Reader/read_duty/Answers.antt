use Rattle.std.proofs.Common.{[], ◌∷◌, ◌++◌, refl, ap}
use Rattle.std.proofs.lemmas.Result.{err_from_is_err_and}
use Rattle.book.specs.declared.rules.Pattern as held-pattern
use Rattle.book.specs.declared.rules.Rule as held
use Rattle.book.specs.declared.terminals.Terminal.TheVariants.{Duty, Before}
use Rattle.book.specs.Rules.{Pattern, never, Rule, duty}
use Rattle.book.specs.Grammar.{item, mark, pattern_items, Spot, spot, started, rule_items}
use Rattle.book.specs.Readers.{only_items}
use Rattle.book.specs.Readers.{coming}
use Rattle.book.specs.Trees.{pure_pattern, pure_rule}
use Rattle.book.proofs.Compose.{read_on, part_of}
use Rattle.book.proofs.Nested.{inside, eq_last, inv_act, inv_before, inv_deadline}
use Rattle.book.proofs.reader.Reader.read_duty.Goals as goal

pub returns-in_err-act-clause-told : goal.returns-in_err-act-clause-told
returns-in_err-act-clause-told c =
    let b = c.args.bound in
    let k = c.args.kind in
    let p = err_from_is_err_and c.from_residual.result c.from_residual.ensures.1 in
    rw (p.1, p.2) (λ rule nodes around from r. let s : Spot = spot rule nodes around b in
    part_of held-pattern.Pattern Pattern held.Rule Rule pure_pattern pure_rule (pattern_items b) (rule_items s) (item (Duty k) (started s) ∷ []) (λ x. duty k x never) (λ _. mark Before ∷ pattern_items b never) (λ _. refl) (inv_act s k) from _ (coming c.read_pattern.new.self) (coming c.read_pattern.new.self) r c.in_err-act.field-0.0 c.in_err-act.ensures)

pub returns-in_err-expect-clause-told : goal.returns-in_err-expect-clause-told
returns-in_err-expect-clause-told c =
    let b = c.args.bound in
    let k = c.args.kind in
    let act = pure_pattern c.in_ok-act.act in
    let p = err_from_is_err_and c.from_residual-in_err-expect.result c.from_residual-in_err-expect.ensures.1 in
    rw (p.1, p.2) (λ rule nodes around from r. let s : Spot = spot rule nodes around b in
    inside (Unit {0}) Rule (only_items Before) (rule_items s) (item (Duty k) (started s) ∷ pattern_items b act) (λ _. duty k act never) (λ _. pattern_items b never) (λ _. refl) (inv_before s k act) from _ _ _
    (read_on _ _ _ (item (Duty k) (started s) ∷ []) (pattern_items b act) r c.in_ok-act.ensures) c.in_err-expect.ensures)

pub returns-in_err-deadline-clause-told : goal.returns-in_err-deadline-clause-told
returns-in_err-deadline-clause-told c =
    let b = c.args.bound in
    let k = c.args.kind in
    let act = pure_pattern c.in_ok-act.act in
    let A = pattern_items b act in
    let p = err_from_is_err_and c.from_residual-in_err-deadline.result c.from_residual-in_err-deadline.ensures.1 in
    rw (p.1, p.2) (λ rule nodes around from r. let s : Spot = spot rule nodes around b in
    part_of held-pattern.Pattern Pattern held.Rule Rule pure_pattern pure_rule (pattern_items b) (rule_items s) (item (Duty k) (started s) ∷ (A ++ (mark Before ∷ []))) (λ x. duty k act x) (λ _. []) (λ x. ap (λ l. item (Duty k) (started s) ∷ l) (eq_last A (mark Before) (pattern_items b x))) (inv_deadline s k act) from _ (coming c.read_pattern-2.new.self) (coming c.read_pattern-2.new.self)
    (read_on _ _ _ (item (Duty k) (started s) ∷ []) (A ++ (mark Before ∷ [])) r (read_on _ _ _ A (mark Before ∷ []) c.in_ok-act.ensures c.in_ok-expect.ensures)) c.in_err-deadline.field-0.0 c.in_err-deadline.ensures)

pub returns-clause-told : goal.returns-clause-told
returns-clause-told c =
    let b = c.args.bound in
    let k = c.args.kind in
    let A = pattern_items b (pure_pattern c.in_ok-act.act) in
    let D = pattern_items b (pure_pattern c.in_ok-deadline.deadline) in
    λ rule nodes around from r. let s : Spot = spot rule nodes around b in
    read_on _ _ _ (item (Duty k) (started s) ∷ []) (A ++ (mark Before ∷ D)) r (read_on _ _ _ A (mark Before ∷ D) c.in_ok-act.ensures (read_on _ _ _ (mark Before ∷ []) D c.in_ok-expect.ensures c.in_ok-deadline.ensures))
