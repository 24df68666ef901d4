use Rattle.std.proofs.Common.{◌≡◌, ◌+◌, [], ◌∷◌, ◌++◌, sym, refl, ap, ◌∙◌, append_assoc}
use Rattle.std.proofs.lemmas.Result.{err_from_is_err_and}
use Rattle.book.specs.declared.openings.Opening.{Opening}
use Rattle.book.specs.declared.rules.Pattern as held-pattern
use Rattle.book.specs.declared.rules.Rule as held
use Rattle.book.specs.declared.terms.BracketKind.{BracketKind}
use Rattle.book.specs.declared.terms.BracketKind.TheVariants as kinds
use Rattle.book.specs.declared.terminals.Terminal.TheVariants.{Trigger, Until, Then, Joint, Open, Close}
use Rattle.book.specs.Rules.{Pattern, never, Rule, trigger, bracket}
use Rattle.book.specs.Grammar.{item, mark, pattern_items, Spot, spot, started, rule_items}
use Rattle.book.specs.Nodes.{spot_at, joint_items, opening_items}
use Rattle.book.specs.Readers.{coming, only_items}
use Rattle.book.specs.Trees.{pure_pattern, pure_rule}
use Rattle.book.proofs.Compose.{start, read_on, part_of}
use Rattle.book.proofs.Nested.{inside, some, eq_mid, eq_last, inv_opening, begun, begun_rest, begins, inner, inv_start, inv_until, inv_end, inv_then, inv_duty, first, second, inv_left, inv_joint, inv_right, inv_close}
use Rattle.book.proofs.Nested.{move_reads, move_told, move_bracket, move_trigger}
use Rattle.book.proofs.reader.Reader.+readers.Goals as goal

pub read_rule-returns-in_err-kind-clause-told : goal.read_rule-returns-in_err-kind-clause-told
read_rule-returns-in_err-kind-clause-told t c =
    let s : Spot = spot_at c.args.place.now c.args.nodes.now in
    let p = err_from_is_err_and c.from_residual.result c.from_residual.ensures.1 in
    rw (p.1, p.2) (inside Opening Rule (opening_items s.rule s.nodes s.around) (rule_items s) [] begun (begun_rest s) (begins s) (inv_opening s) _ _ _ _ (start _ _ refl) c.in_err-kind.ensures.told)

pub read_bracket-returns-in_err-left-clause-told : goal.read_bracket-returns-in_err-left-clause-told
read_bracket-returns-in_err-left-clause-told t c =
    let s : Spot = spot_at c.args.place.now c.args.nodes.now in
    let p = err_from_is_err_and c.from_residual.result c.from_residual.ensures.1 in
    rw (p.1, p.2) (λ from r. part_of held.Rule Rule held.Rule Rule pure_rule pure_rule (rule_items (first s)) (rule_items s) (item Open (started s) ∷ []) (λ x. bracket kinds.Else x some) (λ x. mark (Joint kinds.Else) ∷ (rule_items (second s x) some ++ (mark Close ∷ []))) (λ _. refl) (inv_left s)
    from _ (coming c.read_inside.new.self) (coming c.read_inside.new.self) r c.in_err-left.field-0.0
    c.in_err-left.ensures.told)

pub read_bracket-returns-in_err-kind-clause-told : goal.read_bracket-returns-in_err-kind-clause-told
read_bracket-returns-in_err-kind-clause-told t c =
    let s : Spot = spot_at c.args.place.now c.args.nodes.now in
    let a = pure_rule c.in_ok-left.left in
    let left = c.in_ok-left.ensures.told in
    let told-left = c.in_ok-left.ensures in
    let p = err_from_is_err_and c.from_residual-in_err-kind.result c.from_residual-in_err-kind.ensures.1 in
    rw (p.1, p.2) (λ from r. inside BracketKind Rule joint_items (rule_items s) (item Open (started s) ∷ rule_items (first s) a) (λ k. bracket k a some) (λ _. rule_items (second s a) some ++ (mark Close ∷ [])) (λ _. refl) (inv_joint s a) from _ _ _
    (read_on _ _ _ (item Open (started s) ∷ []) (rule_items (first s) a) r left) c.in_err-kind.ensures)

pub read_bracket-returns-in_err-right-clause-told : goal.read_bracket-returns-in_err-right-clause-told
read_bracket-returns-in_err-right-clause-told t c =
    let s : Spot = spot_at c.args.place.now c.args.nodes.now in
    let a = pure_rule c.in_ok-left.left in
    let left = c.in_ok-left.ensures.told in
    let k = c.in_ok-kind.kind in
    let A = rule_items (first s) a in
    let told-left = c.in_ok-left.ensures in
    let n = told-left.counted in
    let stays = told-left.stays in
    let in-right : spot c.read_inside.new.place.rule c.read_inside.new.nodes.begun (c.read_inside.new.place.around + 1) s.bound ≡ second s a = (λ j. spot (stays j).rule (n j) ((stays j).around + 1) s.bound) in
    let p = err_from_is_err_and c.from_residual-in_err-right.result c.from_residual-in_err-right.ensures.1 in
    rw (p.1, p.2) (λ from r. part_of held.Rule Rule held.Rule Rule pure_rule pure_rule (rule_items (second s a)) (rule_items s) (item Open (started s) ∷ (A ++ (mark (Joint k) ∷ []))) (λ x. bracket k a x) (λ _. mark Close ∷ []) (λ x. ap (λ l. item Open (started s) ∷ l) (eq_mid A (mark (Joint k)) (rule_items (second s a) x) (mark Close ∷ []))) (inv_right s a k)
    from _ (coming c.read_inside-2.new.self) (coming c.read_inside-2.new.self)
    (read_on _ _ _ (item Open (started s) ∷ []) (A ++ (mark (Joint k) ∷ [])) r (read_on _ _ _ A (mark (Joint k) ∷ []) left c.in_ok-kind.ensures)) c.in_err-right.field-0.0
    (move_told (coming c.read_joint.new.self) (coming c.read_inside-2.new.self) c.in_err-right.field-0.0 _ (second s a) in-right c.in_err-right.ensures.told))

pub read_bracket-returns-in_err-expect-clause-told : goal.read_bracket-returns-in_err-expect-clause-told
read_bracket-returns-in_err-expect-clause-told t c =
    let s : Spot = spot_at c.args.place.now c.args.nodes.now in
    let a = pure_rule c.in_ok-left.left in
    let left = c.in_ok-left.ensures.told in
    let b = pure_rule c.in_ok-right.right in
    let k = c.in_ok-kind.kind in
    let A = rule_items (first s) a in
    let B = rule_items (second s a) b in
    let told-left = c.in_ok-left.ensures in
    let n = told-left.counted in
    let stays = told-left.stays in
    let in-right : spot c.read_inside.new.place.rule c.read_inside.new.nodes.begun (c.read_inside.new.place.around + 1) s.bound ≡ second s a = (λ j. spot (stays j).rule (n j) ((stays j).around + 1) s.bound) in
    let right = move_reads (coming c.read_joint.new.self) (coming c.read_inside-2.new.self) b _ (second s a) in-right c.in_ok-right.ensures.told in
    let p = err_from_is_err_and c.from_residual-in_err-expect.result c.from_residual-in_err-expect.ensures.1 in
    rw (p.1, p.2) (λ from r. inside (Unit {0}) Rule (only_items Close) (rule_items s) (item Open (started s) ∷ (A ++ (mark (Joint k) ∷ B))) (λ _. bracket k a b) (λ _. []) (λ _. ap (λ l. item Open (started s) ∷ l) (sym (append_assoc A (mark (Joint k) ∷ B) (mark Close ∷ [])))) (inv_close s a k b) from _ _ _
    (read_on _ _ _ (item Open (started s) ∷ []) (A ++ (mark (Joint k) ∷ B)) r (read_on _ _ _ A (mark (Joint k) ∷ B) left (read_on _ _ _ (mark (Joint k) ∷ []) B c.in_ok-kind.ensures right))) c.in_err-expect.ensures)

pub read_bracket-returns-clause-told : goal.read_bracket-returns-clause-told
read_bracket-returns-clause-told t c =
    let s : Spot = spot_at c.args.place.now c.args.nodes.now in
    let a = pure_rule c.in_ok-left.left in
    let left = c.in_ok-left.ensures.told in
    let b = pure_rule c.in_ok-right.right in
    let k = c.in_ok-kind.kind in
    let A = rule_items (first s) a in
    let B = rule_items (second s a) b in
    let told-left = c.in_ok-left.ensures in
    let n = told-left.counted in
    let stays = told-left.stays in
    let in-right : spot c.read_inside.new.place.rule c.read_inside.new.nodes.begun (c.read_inside.new.place.around + 1) s.bound ≡ second s a = (λ j. spot (stays j).rule (n j) ((stays j).around + 1) s.bound) in
    let right = move_reads (coming c.read_joint.new.self) (coming c.read_inside-2.new.self) b _ (second s a) in-right c.in_ok-right.ensures.told in
    let x = c.in_ok-new.ensures.ok in
    let y = c.in_ok-new-2.ensures.ok in
    λ from r. move_bracket from (coming c.expect.new.self) s k a _ b _ (ap pure_rule (sym x)) (ap pure_rule (sym y))
    (read_on _ _ _ (item Open (started s) ∷ []) (A ++ (mark (Joint k) ∷ (B ++ (mark Close ∷ [])))) r
    (read_on _ _ _ A (mark (Joint k) ∷ (B ++ (mark Close ∷ []))) left (read_on _ _ _ (mark (Joint k) ∷ []) (B ++ (mark Close ∷ [])) c.in_ok-kind.ensures (read_on _ _ _ B (mark Close ∷ []) right c.in_ok-expect.ensures))))

pub read_trigger-returns-in_err-start-clause-told : goal.read_trigger-returns-in_err-start-clause-told
read_trigger-returns-in_err-start-clause-told t c =
    let s : Spot = spot_at c.args.place.now c.args.nodes.now in
    let b = c.args.place.now.bound in
    let k = c.args.kind in
    let p = err_from_is_err_and c.from_residual.result c.from_residual.ensures.1 in
    rw (p.1, p.2) (λ from r. part_of held-pattern.Pattern Pattern held.Rule Rule pure_pattern pure_rule (pattern_items b) (rule_items s) (item (Trigger k) (started s) ∷ []) (λ x. trigger k x never some) (λ x. mark Until ∷ (pattern_items b never ++ (mark Then ∷ rule_items (inner s x) some))) (λ _. refl) (inv_start s k)
    from _ (coming c.read_pattern.new.self) (coming c.read_pattern.new.self) r c.in_err-start.field-0.0 c.in_err-start.ensures)

pub read_trigger-returns-in_err-expect-clause-told : goal.read_trigger-returns-in_err-expect-clause-told
read_trigger-returns-in_err-expect-clause-told t c =
    let s : Spot = spot_at c.args.place.now c.args.nodes.now in
    let b = c.args.place.now.bound in
    let k = c.args.kind in
    let a = pure_pattern c.in_ok-start.start in
    let p = err_from_is_err_and c.from_residual-in_err-expect.result c.from_residual-in_err-expect.ensures.1 in
    rw (p.1, p.2) (λ from r. inside (Unit {0}) Rule (only_items Until) (rule_items s) (item (Trigger k) (started s) ∷ pattern_items b a) (λ _. trigger k a never some) (λ _. pattern_items b never ++ (mark Then ∷ rule_items (inner s a) some)) (λ _. refl) (inv_until s k a) from _ _ _
    (read_on _ _ _ (item (Trigger k) (started s) ∷ []) (pattern_items b a) r c.in_ok-start.ensures) c.in_err-expect.ensures)

pub read_trigger-returns-in_err-end-clause-told : goal.read_trigger-returns-in_err-end-clause-told
read_trigger-returns-in_err-end-clause-told t c =
    let s : Spot = spot_at c.args.place.now c.args.nodes.now in
    let b = c.args.place.now.bound in
    let k = c.args.kind in
    let a = pure_pattern c.in_ok-start.start in
    let A = pattern_items b a in
    let p = err_from_is_err_and c.from_residual-in_err-end.result c.from_residual-in_err-end.ensures.1 in
    rw (p.1, p.2) (λ from r. part_of held-pattern.Pattern Pattern held.Rule Rule pure_pattern pure_rule (pattern_items b) (rule_items s) (item (Trigger k) (started s) ∷ (A ++ (mark Until ∷ []))) (λ x. trigger k a x some) (λ _. mark Then ∷ rule_items (inner s a) some)
    (λ x. ap (λ l. item (Trigger k) (started s) ∷ l) (eq_mid A (mark Until) (pattern_items b x) (mark Then ∷ rule_items (inner s a) some))) (inv_end s k a)
    from _ (coming c.read_pattern-2.new.self) (coming c.read_pattern-2.new.self)
    (read_on _ _ _ (item (Trigger k) (started s) ∷ []) (A ++ (mark Until ∷ [])) r (read_on _ _ _ A (mark Until ∷ []) c.in_ok-start.ensures c.in_ok-expect.ensures)) c.in_err-end.field-0.0 c.in_err-end.ensures)

pub read_trigger-returns-in_err-expect-2-clause-told : goal.read_trigger-returns-in_err-expect-2-clause-told
read_trigger-returns-in_err-expect-2-clause-told t c =
    let s : Spot = spot_at c.args.place.now c.args.nodes.now in
    let b = c.args.place.now.bound in
    let k = c.args.kind in
    let a = pure_pattern c.in_ok-start.start in
    let e = pure_pattern c.in_ok-end.end in
    let A = pattern_items b a in
    let E = pattern_items b e in
    let p = err_from_is_err_and c.from_residual-in_err-expect-2.result c.from_residual-in_err-expect-2.ensures.1 in
    rw (p.1, p.2) (λ from r. inside (Unit {0}) Rule (only_items Then) (rule_items s) (item (Trigger k) (started s) ∷ (A ++ (mark Until ∷ E))) (λ _. trigger k a e some) (λ _. rule_items (inner s a) some)
    (λ _. ap (λ l. item (Trigger k) (started s) ∷ l) (sym (append_assoc A (mark Until ∷ E) (mark Then ∷ rule_items (inner s a) some)))) (inv_then s k a e) from _ _ _
    (read_on _ _ _ (item (Trigger k) (started s) ∷ []) (A ++ (mark Until ∷ E)) r (read_on _ _ _ A (mark Until ∷ E) c.in_ok-start.ensures (read_on _ _ _ (mark Until ∷ []) E c.in_ok-expect.ensures c.in_ok-end.ensures))) c.in_err-expect-2.ensures)

pub read_trigger-returns-in_err-duty-clause-told : goal.read_trigger-returns-in_err-duty-clause-told
read_trigger-returns-in_err-duty-clause-told t c =
    let s : Spot = spot_at c.args.place.now c.args.nodes.now in
    let b = c.args.place.now.bound in
    let k = c.args.kind in
    let a = pure_pattern c.in_ok-start.start in
    let e = pure_pattern c.in_ok-end.end in
    let A = pattern_items b a in
    let E = pattern_items b e in
    let here : spot s.rule (s.nodes + 1) (s.around + 1) c.with_pattern-inner.result ≡ inner s a = (λ j. spot s.rule (s.nodes + 1) (s.around + 1) (c.with_pattern-inner.ensures j)) in
    let p = err_from_is_err_and c.from_residual-in_err-duty.result c.from_residual-in_err-duty.ensures.1 in
    rw (p.1, p.2) (λ from r. part_of held.Rule Rule held.Rule Rule pure_rule pure_rule (rule_items (inner s a)) (rule_items s) (item (Trigger k) (started s) ∷ (A ++ (mark Until ∷ (E ++ (mark Then ∷ []))))) (λ x. trigger k a e x) (λ _. [])
    (λ x. ap (λ l. item (Trigger k) (started s) ∷ l) (ap (λ l. A ++ (mark Until ∷ l)) (eq_last E (mark Then) (rule_items (inner s a) x)) ∙ sym (append_assoc A (mark Until ∷ (E ++ (mark Then ∷ []))) (rule_items (inner s a) x ++ [])))) (inv_duty s k a e)
    from _ (coming c.read_inside.new.self) (coming c.read_inside.new.self)
    (read_on _ _ _ (item (Trigger k) (started s) ∷ []) (A ++ (mark Until ∷ (E ++ (mark Then ∷ [])))) r (read_on _ _ _ A (mark Until ∷ (E ++ (mark Then ∷ []))) c.in_ok-start.ensures (read_on _ _ _ (mark Until ∷ []) (E ++ (mark Then ∷ [])) c.in_ok-expect.ensures (read_on _ _ _ E (mark Then ∷ []) c.in_ok-end.ensures c.in_ok-expect-2.ensures))))
    c.in_err-duty.field-0.0 (move_told (coming c.expect-2.new.self) (coming c.read_inside.new.self) c.in_err-duty.field-0.0 _ (inner s a) here c.in_err-duty.ensures.told))

pub read_trigger-returns-clause-told : goal.read_trigger-returns-clause-told
read_trigger-returns-clause-told t c =
    let s : Spot = spot_at c.args.place.now c.args.nodes.now in
    let b = c.args.place.now.bound in
    let k = c.args.kind in
    let a = pure_pattern c.in_ok-start.start in
    let e = pure_pattern c.in_ok-end.end in
    let d = pure_rule c.in_ok-duty.duty in
    let A = pattern_items b a in
    let E = pattern_items b e in
    let D = rule_items (inner s a) d in
    let here : spot s.rule (s.nodes + 1) (s.around + 1) c.with_pattern-inner.result ≡ inner s a = (λ j. spot s.rule (s.nodes + 1) (s.around + 1) (c.with_pattern-inner.ensures j)) in
    let told-duty = c.in_ok-duty.ensures in
    let within = move_reads (coming c.expect-2.new.self) (coming c.read_inside.new.self) d _ (inner s a) here told-duty.told in
    let x = c.in_ok-new.ensures.ok in
    λ from r. move_trigger from (coming c.read_inside.new.self) s k a e d _ (ap pure_rule (sym x))
    (read_on _ _ _ (item (Trigger k) (started s) ∷ []) (A ++ (mark Until ∷ (E ++ (mark Then ∷ D)))) r
    (read_on _ _ _ A (mark Until ∷ (E ++ (mark Then ∷ D))) c.in_ok-start.ensures (read_on _ _ _ (mark Until ∷ []) (E ++ (mark Then ∷ D)) c.in_ok-expect.ensures
    (read_on _ _ _ E (mark Then ∷ D) c.in_ok-end.ensures (read_on _ _ _ (mark Then ∷ []) D c.in_ok-expect-2.ensures within)))))
