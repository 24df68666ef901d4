use Rattle.std.proofs.Common.{List, [], ◌∷◌, ◌++◌, vec_items, sym, refl, ap, ◌∙◌, subst}
use Rattle.std.proofs.lemmas.Result.{err_from_is_err_and}
use Rattle.book.specs.declared.patterns.Ending.TheVariants as ending
use Rattle.book.specs.declared.terms.Binder.{Binder}
use Rattle.book.specs.declared.terminals.Terminal.TheVariants.{Never, OpenSquare}
use Rattle.book.specs.Rules.{Pattern, never}
use Rattle.book.specs.Sets.{with_binders}
use Rattle.book.specs.Grammar.{mark, pattern_items}
use Rattle.book.specs.Patterns.{binders_closed}
use Rattle.book.specs.Reading.{any, Reads}
use Rattle.book.specs.Readers.{coming}
use Rattle.book.proofs.Compose.{read_on, one, onto, bad-first, wrong_first}
use Rattle.book.proofs.Squares.{pattern_first, binders_failed, conditions_failed, lines-read, lines_if_read}
use Rattle.book.proofs.reader.Reader.read_pattern.Goals as goal
use Rattle.book.proofs.reader.Reader.read_pattern.Goals.{in-Conditions+in_ok-conditions-in-Conditions, in-Pattern}

pub returns-in_err-seen : goal.returns-in_err-seen
returns-in_err-seen c =
    let nx = c.in_err-seen.ensures in
    let p = err_from_is_err_and c.from_residual.result c.from_residual.ensures.1 in
    rw (p.1, p.2) (bad-first Pattern (pattern_items c.args.bound) (any Pattern) never _ nx.0 c.in_err-seen.field-0.0 nx.1)

pub returns-in-Never : goal.returns-in-Never
returns-in-Never c =
    let nx = c.in_ok-seen.ensures in
    one _ nx.0 _ c.in_ok-seen.seen (mark Never) nx.1 nx.2 c.in-Never.is refl refl

pub returns-in_default : goal.returns-in_default
returns-in_default c =
    let nx = c.in_ok-seen.ensures in
    rw (c.into.ensures, c.fault.ensures) (wrong_first Pattern (pattern_items c.args.bound) (any Pattern) never _ nx.0 c.in_ok-seen.seen nx.1
    (λ x u more f e. pattern_first c.args.bound x c.in_ok-seen.seen.terminal u more e c.in_default.not-Never c.in_default.not-OpenSquare))

pub returns-in_err-ending-in-OpenSquare : goal.returns-in_err-ending-in-OpenSquare
returns-in_err-ending-in-OpenSquare c =
    let nx = c.in_ok-seen.ensures in
    let p = err_from_is_err_and c.from_residual-in_err-ending-in-OpenSquare.result c.from_residual-in_err-ending-in-OpenSquare.ensures.1 in
    rw (p.1, p.2) (binders_failed c.args.bound (coming c.args.self.now) (coming c.next.new.self) (coming c.read_binders.new.self) (coming c.read_binders.new.self) (vec_items c.new-binders.result) (vec_items c.read_binders.new.out)
    (one _ nx.0 _ c.in_ok-seen.seen (mark OpenSquare) nx.1 nx.2 c.in-OpenSquare.is refl refl) c.in_err-ending-in-OpenSquare.field-0.0 c.in_err-ending-in-OpenSquare.ensures)

pub returns-in_err-conditions-in-Conditions : goal.returns-in_err-conditions-in-Conditions
returns-in_err-conditions-in-Conditions c =
    let nx = c.in_ok-seen.ensures in
    let told = c.in_ok-ending-in-OpenSquare.ensures in
    let bs = told.0 in
    let p = err_from_is_err_and c.from_residual-in_err-conditions-in-Conditions.result c.from_residual-in_err-conditions-in-Conditions.ensures.1 in
    let items = told.1 ∙ ap (λ l. l ++ bs) c.new-binders.ensures.items in
    let inner = c.with_binders.ensures ∙ ap (with_binders c.args.bound) (c.deref.ensures.value ∙ items) in
    rw (p.1, p.2) (conditions_failed c.args.bound bs c.with_binders.result inner (coming c.args.self.now) (coming c.read_binders.new.self) (coming c.read_conditions.new.self) (coming c.read_conditions.new.self)
    (read_on _ _ _ (mark OpenSquare ∷ []) (binders_closed (bs, ending.Conditions)) (one _ nx.0 _ c.in_ok-seen.seen (mark OpenSquare) nx.1 nx.2 c.in-OpenSquare.is refl refl)
    (subst (λ b. Reads (coming c.next.new.self) (binders_closed (bs, b)) (coming c.read_binders.new.self)) c.in-Conditions.is told.2))
    c.in_err-conditions-in-Conditions.field-0.0 c.in_err-conditions-in-Conditions.ensures)

pub returns-after-ending : goal.returns-after-ending
returns-after-ending c =
    let nx = c.in_ok-seen.ensures in
    let told = c.in_ok-ending-in-OpenSquare.ensures in
    let bs : List Binder = told.0 in
    let items = told.1 ∙ ap (λ l. l ++ bs) c.new-binders.ensures.items in
    let square = one _ nx.0 (coming c.next.new.self) c.in_ok-seen.seen (mark OpenSquare) nx.1 nx.2 c.in-OpenSquare.is refl refl in
    elim c.match-ending.branch [
      | in-Conditions+in_ok-conditions-in-Conditions w ↦
          let cs = w.in_ok-conditions-in-Conditions.ensures in
          let inner = w.with_binders.ensures ∙ ap (with_binders c.args.bound) (w.deref.ensures.value ∙ items) in
          lines_if_read c.args.bound bs (vec_items c.read_binders.new.out) w.with_binders.result cs.0 cs.1 (vec_items c.match-ending.conditions) (coming c.args.self.now) (coming c.read_binders.new.self) (coming c.match-ending.self) items inner
          (ap vec_items w.conditions-is ∙ cs.2)
          (read_on _ _ _ (mark OpenSquare ∷ []) (binders_closed (bs, ending.Conditions)) square (subst (λ b. Reads (coming c.next.new.self) (binders_closed (bs, b)) (coming c.read_binders.new.self)) w.in-Conditions.is told.2))
          (onto _ _ _ _ (ap coming (sym w.self-is)) cs.3)
      | in-Pattern w ↦
          lines-read c.args.bound bs (vec_items c.read_binders.new.out) (vec_items c.match-ending.conditions) (coming c.args.self.now) (coming c.match-ending.self) items (ap vec_items w.conditions-is ∙ w.new-conditions.ensures.items)
          (onto _ _ _ _ (ap coming (sym w.self-is)) (read_on _ _ _ (mark OpenSquare ∷ []) (binders_closed (bs, ending.Pattern)) square (subst (λ b. Reads (coming c.next.new.self) (binders_closed (bs, b)) (coming c.read_binders.new.self)) w.in-Pattern.is told.2)))
    ]
