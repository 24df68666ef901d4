use Rattle.std.proofs.Common.{◌≡◌, ◌+◌, ◌≤◌, [], ◌∷◌, Ok, Err, vec_len, vec_items, sym, refl, ap, ◌∙◌, append-nil, subst, arith}
use Rattle.std.proofs.lemmas.Result.{err_from_is_err_and}
use Rattle.tokens.specs.Tokens.{ahead}
use Rattle.book.specs.declared.refusals.Refusal.TheVariants.{Faulty}
use Rattle.book.specs.declared.terminals.Terminal.TheVariants.{Semicolon}
use Rattle.book.specs.Grammar.{mark, spot, top, rule_items}
use Rattle.book.specs.Text.{meanings}
use Rattle.book.specs.Readers.{coming}
use Rattle.book.specs.Trees.{pure_rule}
use Rattle.book.proofs.Bounds.{rule-within}
use Rattle.book.proofs.Compose.{read_on}
use Rattle.book.proofs.Nested.{move_reads, move_told}
use Rattle.book.proofs.Texts.{ToldRest, read-all, goes_on, at_end, rules_failed, rule_failed, semicolon_fails, more-rules, move_rest, move_goes}
use Rattle.book.proofs.reader.Reader.read_rules.Goals as goal

pub returns-in_err-rule : goal.returns-in_err-rule
returns-in_err-rule c =
    let k = vec_len c.loop-nodes.rules in
    let n = c.loop-nodes.nodes.begun in
    let xs = vec_items c.loop-nodes.rules in
    let a = c.loop-nodes-test.ensures in
    let here = coming c.loop-nodes.self in
    let from = coming c.at_end.new.self in
    let stays = ap meanings a.stays in
    let p = c.top-place.ensures in
    let place : spot c.top-place.result.rule n c.top-place.result.around c.top-place.result.bound ≡ top (k + 1) n = (λ i. spot ((p.rule ∙ ap (λ m. m + 1) c.len.ensures) i) n (p.around i) (p.bound i)) in
    let q = err_from_is_err_and c.from_residual.result c.from_residual.ensures.1 in
    rw (q.1, q.2) (rules_failed _ c.in_err-rule.field-0.0 [] xs (c.loop-nodes.invariant.whole (Err c.in_err-rule.field-0.0) xs (move_rest k n from here (Err c.in_err-rule.field-0.0) xs xs stays
    (rule_failed k n from (coming c.read_rule.new.self) xs xs (move_goes here from (sym stays) (goes_on (ahead c.loop-nodes.self.cursor) a.next a.rest a.split (a.more refl)))
    c.in_err-rule.field-0.0 (move_told from (coming c.read_rule.new.self) c.in_err-rule.field-0.0 _ (top (k + 1) n) place c.in_err-rule.ensures.told)))))

pub returns-in_err-expect : goal.returns-in_err-expect
returns-in_err-expect c =
    let k = vec_len c.loop-nodes.rules in
    let n = c.loop-nodes.nodes.begun in
    let xs = vec_items c.loop-nodes.rules in
    let a = c.loop-nodes-test.ensures in
    let here = coming c.loop-nodes.self in
    let from = coming c.at_end.new.self in
    let r = pure_rule c.in_ok-rule.rule in
    let p = c.top-place.ensures in
    let place : spot c.top-place.result.rule n c.top-place.result.around c.top-place.result.bound ≡ top (k + 1) n = (λ i. spot ((p.rule ∙ ap (λ m. m + 1) c.len.ensures) i) n (p.around i) (p.bound i)) in
    let q = err_from_is_err_and c.from_residual-in_err-expect.result c.from_residual-in_err-expect.ensures.1 in
    rw (q.1, q.2) (c.loop-nodes.invariant.whole (Err (Faulty c.in_err-expect.field-0.0)) xs (move_rest k n from here (Err (Faulty c.in_err-expect.field-0.0)) xs xs (ap meanings a.stays)
    (semicolon_fails k n r from (coming c.read_rule.new.self) _ _ (move_reads from (coming c.read_rule.new.self) r _ (top (k + 1) n) place c.in_ok-rule.ensures.told) c.in_err-expect.ensures)))

pub loop-nodes-preserved : goal.loop-nodes-preserved
loop-nodes-preserved c =
    let k = vec_len c.loop-nodes.rules in
    let n = c.loop-nodes.nodes.begun in
    let xs = vec_items c.loop-nodes.rules in
    let a = c.loop-nodes-test.ensures in
    let here = coming c.loop-nodes.self in
    let from = coming c.at_end.new.self in
    let x = c.in_ok-rule.rule in
    let p = c.top-place.ensures in
    let place : spot c.top-place.result.rule n c.top-place.result.around c.top-place.result.bound ≡ top (k + 1) n = (λ i. spot ((p.rule ∙ ap (λ m. m + 1) c.len.ensures) i) n (p.around i) (p.bound i)) in
    let read = move_reads from (coming c.read_rule.new.self) (pure_rule x) _ (top (k + 1) n) place c.in_ok-rule.ensures.told in
    let few : k + 1 ≤ 16 = (rule-within (pure_rule x) (top (k + 1) n) read.sound).rules in
    let longer = c.in_ok-push.ensures.len in
    record {
      few = omega (arith, few, longer);
      whole = λ r ys h. c.loop-nodes.invariant.whole r ys (move_rest k n from here r xs ys (ap meanings a.stays)
          (more-rules k n c.read_rule.new.nodes.begun x from (coming c.expect.new.self) xs (vec_items c.push.new.self) ys c.in_ok-rule.ensures.counted
          (read_on _ _ _ (rule_items (top (k + 1) n) (pure_rule x)) (mark Semicolon ∷ []) read c.in_ok-expect.ensures)
          c.in_ok-push.ensures.items r (subst (λ j. ToldRest j c.read_rule.new.nodes.begun (coming c.expect.new.self) r (vec_items c.push.new.self) ys) longer h)));
    }

pub returns : goal.returns
returns c =
    let k = vec_len c.loop-nodes.rules in
    let n = c.loop-nodes.nodes.begun in
    let xs = vec_items c.loop-nodes.rules in
    let a = c.loop-nodes-test.ensures in
    read-all _ xs (c.loop-nodes.invariant.whole (Ok tt) xs ([], sym (append-nil _), at_end (ahead c.loop-nodes.self.cursor) a.next a.rest k n a.split (a.only refl).0 (a.only refl).1))
