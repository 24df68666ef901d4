use Rattle.std.proofs.Common.{◌≡◌, ◌≢◌, MatchOption, ◌+◌, [], Ok, Err, Some, None, sym, refl, ap, ◌∙◌, rules, subst}
use Rattle.std.proofs.lemmas.Result.{err_from_is_err_and}
use Rattle.std.specs.Result.{result_err}
use Rattle.book.specs.declared.openings.Opening.{Opening}
use Rattle.book.specs.declared.openings.Opening.TheVariants.{Bracket}
use Rattle.book.specs.Grammar.{item, starts}
use Rattle.book.specs.Nodes.{opening_terminal, opening_items}
use Rattle.book.specs.Reading.{any}
use Rattle.book.proofs.Compose.{one, bad-first, wrong_first, faulty_first}
use Rattle.book.proofs.Nested.{opening-goes}
use Rattle.book.proofs.reader.Reader.read_opening.Goals as goal

pub returns-in_err-seen-clause-told : goal.returns-in_err-seen-clause-told
returns-in_err-seen-clause-told c =
    let nx = c.in_err-seen.ensures in
    let p = err_from_is_err_and c.from_residual.result c.from_residual.ensures.1 in
    rw (p.1, p.2) (bad-first Opening (opening_items c.args.place.rule c.args.nodes.now.begun c.args.place.around) (any Opening) Bracket _ nx.0 c.in_err-seen.field-0.0 nx.1)

pub returns-in_err-opening-clause-told : goal.returns-in_err-opening-clause-told
returns-in_err-opening-clause-told c =
    let nx = c.in_ok-seen.ensures in
    let none : c.of.result ≡ None = search rules in
    let wrong : c.in_err-opening.field-0.0 ≡ c.fault.result = search rules in
    let strange : (o : Opening) → c.in_ok-seen.seen.terminal ≢ opening_terminal o = subst (λ r. MatchOption r ((o : Opening) → c.in_ok-seen.seen.terminal ≢ opening_terminal o) (λ o. c.in_ok-seen.seen.terminal ≡ opening_terminal o)) none c.of.ensures in
    let p = err_from_is_err_and c.from_residual-in_err-opening.result c.from_residual-in_err-opening.ensures.1 in
    rw (p.1, p.2, wrong, c.fault.ensures) (wrong_first Opening (opening_items c.args.place.rule c.args.nodes.now.begun c.args.place.around) (any Opening) Bracket _ nx.0 c.in_ok-seen.seen nx.1 (λ x u more f e. strange x (cc)))

pub returns-in_err-map_err-clause-told : goal.returns-in_err-map_err-clause-told
returns-in_err-map_err-clause-told c =
    let nx = c.in_ok-seen.ensures in
    let o = c.in_ok-opening.opening in
    let found : c.of.result ≡ Some o = search rules in
    let begins : c.in_ok-seen.seen.terminal ≡ opening_terminal o = subst (λ r. MatchOption r ((o : Opening) → c.in_ok-seen.seen.terminal ≢ opening_terminal o) (λ o. c.in_ok-seen.seen.terminal ≡ opening_terminal o)) found c.of.ensures in
    let fault = c.in_err-map_err.field-0.0 in
    let refused : c.check_node.result ≡ Err fault.reason = search rules in
    let placed : fault.place ≡ c.in_ok-seen.seen.place = search rules in
    let p = err_from_is_err_and c.from_residual-in_err-map_err.result c.from_residual-in_err-map_err.ensures.1 in
    rw (p.1, p.2, placed) (faulty_first Opening (opening_items c.args.place.rule c.args.nodes.now.begun c.args.place.around) (any Opening) o (item (opening_terminal o) (starts c.args.place.rule (c.args.nodes.now.begun + 1) (c.args.place.around + 1))) [] refl
    _ nx.0 c.in_ok-seen.seen fault.reason nx.1 begins (sym c.check_node.ensures.fault ∙ ap result_err refused))

pub returns-clause-told : goal.returns-clause-told
returns-clause-told c =
    let nx = c.in_ok-seen.ensures in
    let o = c.in_ok-opening.opening in
    let found : c.of.result ≡ Some o = search rules in
    let begins : c.in_ok-seen.seen.terminal ≡ opening_terminal o = subst (λ r. MatchOption r ((o : Opening) → c.in_ok-seen.seen.terminal ≢ opening_terminal o) (λ o. c.in_ok-seen.seen.terminal ≡ opening_terminal o)) found c.of.ensures in
    let sound : c.check_node.result ≡ Ok tt = search rules in
    one _ nx.0 _ c.in_ok-seen.seen (item (opening_terminal o) (starts c.args.place.rule (c.args.nodes.now.begun + 1) (c.args.place.around + 1))) nx.1 nx.2 begins (opening-goes o) (sym c.check_node.ensures.fault ∙ ap result_err sound)
