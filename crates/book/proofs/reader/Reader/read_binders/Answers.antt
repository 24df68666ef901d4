use Rattle.std.proofs.Common.{List, [], ◌∷◌, vec_items, refl, ap, ◌∙◌}
use Rattle.book.specs.Sets.{no_fields, no_letters, with_field, with_operand}
use Rattle.book.proofs.Lists.{move_sets, move_operand, none_named}
use Rattle.std.proofs.lemmas.Result.{err_from_is_err_and}
use Rattle.book.specs.declared.patterns.Ending.{Ending}
use Rattle.book.specs.declared.patterns.Ending.TheVariants as ending
use Rattle.book.specs.declared.terms.Binder.{Binder}
use Rattle.book.specs.declared.terms.Operand.{Operand}
use Rattle.book.specs.declared.terminals.Terminal.TheVariants.{Named, CloseSquare}
use Rattle.book.specs.Grammar.{item, mark, names}
use Rattle.book.specs.Patterns.{operand_items, binders_closed}
use Rattle.book.specs.Reading.{any}
use Rattle.book.specs.Readers.{coming}
use Rattle.book.proofs.Compose.{read_on, alike, one, closed, within, bad-first}
use Rattle.book.proofs.Lists.{binder, ended, binders_first, inv_first_operand, first_binders}
use Rattle.book.proofs.reader.Reader.read_binders.Goals as goal

pub returns-in_err-seen : goal.returns-in_err-seen
returns-in_err-seen c =
    let nx = c.in_err-seen.ensures in
    let p = err_from_is_err_and c.from_residual.result c.from_residual.ensures.1 in
    rw (p.1, p.2) (bad-first (List Binder × Ending) binders_closed (any (List Binder × Ending)) ([], ending.Pattern) _ nx.0 c.in_err-seen.field-0.0 nx.1)

pub returns-in_default : goal.returns-in_default
returns-in_default c =
    let nx = c.in_ok-seen.ensures in
    rw (c.ok_or.ensures.value, c.into.ensures, c.fault.ensures)
    (ended binders_closed _ nx.0 _ c.in_ok-seen.seen (vec_items c.args.out.now) c.of.result (λ _. refl) (λ x u more e n. binders_first x.0 x.1 c.in_ok-seen.seen.terminal u more e n c.in_default.not-Named) nx.1 nx.2 c.of.ensures)

pub returns-in_err-operand : goal.returns-in_err-operand
returns-in_err-operand c =
    let nx = c.in_ok-seen.ensures in
    let f = c.in-Named.field in
    let p = err_from_is_err_and c.from_residual-in_err-operand.result c.from_residual-in_err-operand.ensures.1 in
    rw (p.1, p.2) (within Operand (List Binder × Ending) (operand_items no_letters) (any Operand) binders_closed (any (List Binder × Ending)) (item (Named f) (names no_fields f) ∷ []) (λ o. (binder f o ∷ [], ending.Pattern)) (λ _. mark CloseSquare ∷ []) (λ _. refl)
    (λ y u v _ q. let i = inv_first_operand f y.0 y.1 u v q in (i.0, i.1, closed i.0 i.1, i.2)) _ _ _ _
    (one _ nx.0 _ c.in_ok-seen.seen (item (Named f) (names no_fields f)) nx.1 nx.2 c.in-Named.is refl (none_named f)) (move_operand c.none.result no_letters _ _ _ c.none.ensures c.in_err-operand.ensures))

pub returns : goal.returns
returns c =
    let nx = c.in_ok-seen.ensures in
    let f = c.in-Named.field in
    let o = c.in_ok-operand.operand in
    first_binders f o (coming c.args.self.now) (coming c.read_operand.new.self) (coming c.read_more_binders.new.self) (vec_items c.args.out.now) (vec_items c.push.new.self) (vec_items c.read_more_binders.new.out)
    (read_on _ _ _ (item (Named f) (names no_fields f) ∷ []) (operand_items no_letters o) (one _ nx.0 _ c.in_ok-seen.seen (item (Named f) (names no_fields f)) nx.1 nx.2 c.in-Named.is refl (none_named f))
    (alike _ _ (operand_items c.none.result o) (operand_items no_letters o) (ap (λ s. operand_items s o) c.none.ensures) c.in_ok-operand.ensures))
    c.in_ok-push.ensures.items c.read_more_binders.result
    (move_sets c.with.result (with_field no_fields f) c.with_operand.result (with_operand no_letters o) (coming c.read_operand.new.self) (coming c.read_more_binders.new.self) (vec_items c.push.new.self) (vec_items c.read_more_binders.new.out) c.read_more_binders.result
    (c.with.ensures ∙ ap (λ s. with_field s f) c.none-2.ensures) (c.with_operand.ensures ∙ ap (λ s. with_operand s o) c.none-3.ensures) c.read_more_binders.ensures)
