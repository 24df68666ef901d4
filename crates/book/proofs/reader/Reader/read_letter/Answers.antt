use Rattle.std.proofs.Common.{◌≡◌, [], Ok, Err, sym, refl, ap, ◌∙◌, rules}
use Rattle.std.proofs.lemmas.Result.{err_from_is_err_and}
use Rattle.std.specs.Result.{result_err}
use Rattle.book.specs.declared.terms.Letter.{Letter}
use Rattle.book.specs.declared.terms.Letter.TheVariants.{A}
use Rattle.book.specs.declared.terminals.Terminal.TheVariants.{Lettered}
use Rattle.book.specs.Grammar.{item, uses}
use Rattle.book.specs.Parts.{letter_items}
use Rattle.book.specs.Reading.{any}
use Rattle.book.proofs.Compose.{one, bad-first, wrong_first, faulty_first}
use Rattle.book.proofs.reader.Reader.read_letter.Goals as goal

pub returns-in_err-seen : goal.returns-in_err-seen
returns-in_err-seen c =
    let nx = c.in_err-seen.ensures in
    let p = err_from_is_err_and c.from_residual.result c.from_residual.ensures.1 in
    rw (p.1, p.2) (bad-first Letter (letter_items c.args.scope.number c.args.scope.bound) (any Letter) A _ nx.0 c.in_err-seen.field-0.0 nx.1)

pub returns-in_default : goal.returns-in_default
returns-in_default c =
    let nx = c.in_ok-seen.ensures in
    rw c.fault.ensures (wrong_first Letter (letter_items c.args.scope.number c.args.scope.bound) (any Letter) A _ nx.0 c.in_ok-seen.seen nx.1 (λ x u more f e. c.in_default.not-Lettered x (cc)))

pub returns-in_err-map_err : goal.returns-in_err-map_err
returns-in_err-map_err c =
    let nx = c.in_ok-seen.ensures in
    let l = c.in-Lettered.letter in
    let fault = c.in_err-map_err.field-0.0 in
    let refused : c.check_letter.result ≡ Err fault.reason = search rules in
    let placed : fault.place ≡ c.in_ok-seen.seen.place = search rules in
    let p = err_from_is_err_and c.from_residual-in_err-map_err.result c.from_residual-in_err-map_err.ensures.1 in
    rw (p.1, p.2, placed) (faulty_first Letter (letter_items c.args.scope.number c.args.scope.bound) (any Letter) l (item (Lettered l) (uses c.args.scope.number c.args.scope.bound l)) [] refl _ nx.0 c.in_ok-seen.seen fault.reason nx.1 c.in-Lettered.is (sym c.check_letter.ensures ∙ ap result_err refused))

pub returns : goal.returns
returns c =
    let nx = c.in_ok-seen.ensures in
    let l = c.in-Lettered.letter in
    let sound : c.check_letter.result ≡ Ok tt = search rules in
    one _ nx.0 _ c.in_ok-seen.seen (item (Lettered l) (uses c.args.scope.number c.args.scope.bound l)) nx.1 nx.2 c.in-Lettered.is refl (sym c.check_letter.ensures ∙ ap result_err sound)
