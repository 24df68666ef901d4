use Rattle.std.proofs.Common.{◌≡◌, ◌≢◌, List, [], ◌∷◌, ◌++◌, Err, vec_items, sym, refl}
use Rattle.book.specs.Sets.{with_field, with_operand}
use Rattle.book.proofs.Lists.{move_sets}
use Rattle.std.proofs.lemmas.Result.{err_from_is_err_and}
use Rattle.feed.specs.declared.fields.Field.{Field}
use Rattle.book.specs.declared.patterns.Ending.{Ending}
use Rattle.book.specs.declared.patterns.Ending.TheVariants as ending
use Rattle.book.specs.declared.refusals.Refusal.TheVariants.{Faulty}
use Rattle.book.specs.declared.terms.Binder.{Binder}
use Rattle.book.specs.declared.terms.Operand.{Operand}
use Rattle.book.specs.declared.terms.Operand.TheVariants.{Number}
use Rattle.book.specs.declared.terminals.Terminal.TheVariants.{Named, Numeral, Comma, CloseSquare}
use Rattle.book.specs.Grammar.{item, mark, names}
use Rattle.book.specs.Patterns.{field_items, operand_items, more_closed}
use Rattle.book.specs.Reading.{any}
use Rattle.book.specs.Readers.{coming}
use Rattle.book.proofs.Compose.{read_on, one, closed, within, bad-first}
use Rattle.book.proofs.Lists.{binder, ended, more-first, inv_field, inv_operand, more_binders_lem}
use Rattle.book.proofs.Equal.{no_other, other}
use Rattle.book.proofs.reader.Reader.read_more_binders.Goals as goal

pub returns-in_err-seen : goal.returns-in_err-seen
returns-in_err-seen c =
    let nx = c.in_err-seen.ensures in
    let p = err_from_is_err_and c.from_residual.result c.from_residual.ensures.1 in
    rw (p.1, p.2) (c.loop-seen.invariant.whole (Err (Faulty c.in_err-seen.field-0.0)) [] (vec_items c.loop-seen.out) (bad-first (List Binder × Ending) (more_closed c.loop-seen.fields c.loop-seen.letters) (any (List Binder × Ending)) ([], ending.Pattern) _ nx.0 c.in_err-seen.field-0.0 nx.1))

pub returns-in_err-field : goal.returns-in_err-field
returns-in_err-field c =
    let comma : c.in_ok-seen.seen.terminal ≡ Comma = no_other c.in_ok-seen.seen.terminal Comma (sym c.if-ne.ensures) in
    let nx = c.in_ok-seen.ensures in
    let fs = c.loop-seen.fields in
    let ls = c.loop-seen.letters in
    let p = err_from_is_err_and c.from_residual-in_err-field.result c.from_residual-in_err-field.ensures.1 in
    rw (p.1, p.2) (c.loop-seen.invariant.whole (Err (Faulty c.in_err-field.field-0.0)) [] (vec_items c.loop-seen.out) (within Field (List Binder × Ending) (field_items fs) (any Field) (more_closed fs ls) (any (List Binder × Ending)) (mark Comma ∷ []) (λ f. (binder f (Number 0) ∷ [], ending.Pattern)) (λ _. mark (Numeral 0) ∷ mark CloseSquare ∷ []) (λ _. refl)
    (λ y u v _ q. let i = inv_field fs ls y.0 y.1 u v q in (i.0, i.1, closed i.0 i.1, i.2)) _ _ _ _
    (one _ nx.0 _ c.in_ok-seen.seen (mark Comma) nx.1 nx.2 comma refl refl) c.in_err-field.ensures))

pub returns-in_err-operand : goal.returns-in_err-operand
returns-in_err-operand c =
    let comma : c.in_ok-seen.seen.terminal ≡ Comma = no_other c.in_ok-seen.seen.terminal Comma (sym c.if-ne.ensures) in
    let nx = c.in_ok-seen.ensures in
    let fs = c.loop-seen.fields in
    let ls = c.loop-seen.letters in
    let f = c.in_ok-field.field in
    let p = err_from_is_err_and c.from_residual-in_err-operand.result c.from_residual-in_err-operand.ensures.1 in
    rw (p.1, p.2) (c.loop-seen.invariant.whole (Err (Faulty c.in_err-operand.field-0.0)) [] (vec_items c.loop-seen.out) (within Operand (List Binder × Ending) (operand_items ls) (any Operand) (more_closed fs ls) (any (List Binder × Ending)) (mark Comma ∷ item (Named f) (names fs f) ∷ []) (λ o. (binder f o ∷ [], ending.Pattern)) (λ _. mark CloseSquare ∷ []) (λ _. refl)
    (λ y u v _ q. let i = inv_operand fs ls f y.0 y.1 u v q in (i.0, i.1, closed i.0 i.1, i.2)) _ _ _ _
    (read_on _ _ _ (mark Comma ∷ []) (field_items fs f) (one _ nx.0 _ c.in_ok-seen.seen (mark Comma) nx.1 nx.2 comma refl refl) c.in_ok-field.ensures) c.in_err-operand.ensures))

pub returns-then-ne : goal.returns-then-ne
returns-then-ne c =
    let nx = c.in_ok-seen.ensures in
    let fs = c.loop-seen.fields in
    let ls = c.loop-seen.letters in
    let not-comma : c.in_ok-seen.seen.terminal ≢ Comma = other c.in_ok-seen.seen.terminal Comma (sym c.if-ne.ensures) in
    rw (c.ok_or.ensures.value, c.into.ensures, c.fault.ensures) (c.loop-seen.invariant.whole _ (coming c.next.new.self) (vec_items c.loop-seen.out)
    (ended (more_closed fs ls) _ nx.0 _ c.in_ok-seen.seen (vec_items c.loop-seen.out) c.of.result (λ _. refl) (λ x u more e n. more-first fs ls x.0 x.1 c.in_ok-seen.seen.terminal u more e n not-comma) nx.1 nx.2 c.of.ensures))

pub loop-seen-preserved : goal.loop-seen-preserved
loop-seen-preserved c =
    let comma : c.in_ok-seen.seen.terminal ≡ Comma = no_other c.in_ok-seen.seen.terminal Comma (sym c.if-ne.ensures) in
    let nx = c.in_ok-seen.ensures in
    let fs = c.loop-seen.fields in
    let ls = c.loop-seen.letters in
    let f = c.in_ok-field.field in
    let o = c.in_ok-operand.operand in
    let here = coming c.loop-seen.self in
    let mid = coming c.read_operand.new.self in
    let xs = vec_items c.loop-seen.out in
    let ys = vec_items c.push.new.self in
    record {
      whole = λ r to zs h. c.loop-seen.invariant.whole r to zs (more_binders_lem fs ls f o here mid to xs ys zs
          (read_on _ _ _ (mark Comma ∷ []) (field_items fs f ++ operand_items ls o) (one _ nx.0 _ c.in_ok-seen.seen (mark Comma) nx.1 nx.2 comma refl refl)
          (read_on _ _ _ (field_items fs f) (operand_items ls o) c.in_ok-field.ensures c.in_ok-operand.ensures))
          c.in_ok-push.ensures.items r
          (move_sets c.with-fields.result (with_field fs f) c.with_operand-letters.result (with_operand ls o) mid to ys zs r c.with-fields.ensures c.with_operand-letters.ensures h));
    }
