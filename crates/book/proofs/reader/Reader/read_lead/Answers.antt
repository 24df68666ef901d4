use Rattle.std.proofs.Common.{◌≡◌, [], Ok, Err, sym, refl, ap, ◌∙◌, rules}
use Rattle.std.proofs.lemmas.Result.{err_from_is_err_and}
use Rattle.std.specs.Result.{result_err}
use Rattle.book.specs.declared.terms.Part.{Part}
use Rattle.book.specs.declared.terms.Part.TheVariants.{Number, Bound}
use Rattle.book.specs.declared.terminals.Terminal.TheVariants.{Lettered, Numeral}
use Rattle.book.specs.Grammar.{item, counts, uses, part_items}
use Rattle.book.specs.Reading.{any}
use Rattle.book.proofs.Compose.{one, bad-first, wrong_first, faulty_first}
use Rattle.book.proofs.Sums.{part_first}
use Rattle.book.proofs.reader.Reader.read_lead.Goals as goal

pub returns-in_err-seen : goal.returns-in_err-seen
returns-in_err-seen c =
    let nx = c.in_err-seen.ensures in
    let p = err_from_is_err_and c.from_residual.result c.from_residual.ensures.1 in
    rw (p.1, p.2) (bad-first Part (part_items c.args.scope.number c.args.scope.bound) (any Part) (Number 0) _ nx.0 c.in_err-seen.field-0.0 nx.1)

pub returns-in_default : goal.returns-in_default
returns-in_default c =
    let nx = c.in_ok-seen.ensures in
    rw c.fault.ensures (wrong_first Part (part_items c.args.scope.number c.args.scope.bound) (any Part) (Number 0) _ nx.0 c.in_ok-seen.seen nx.1
    (λ x u more f e. part_first c.args.scope.number c.args.scope.bound x c.in_ok-seen.seen.terminal u more e c.in_default.not-Numeral c.in_default.not-Lettered))

pub returns-in_err-map_err-in-Numeral : goal.returns-in_err-map_err-in-Numeral
returns-in_err-map_err-in-Numeral c =
    let nx = c.in_ok-seen.ensures in
    let n = c.in-Numeral.number in
    let fault = c.in_err-map_err-in-Numeral.field-0.0 in
    let refused : c.check_number.result ≡ Err fault.reason = search rules in
    let placed : fault.place ≡ c.in_ok-seen.seen.place = search rules in
    let p = err_from_is_err_and c.from_residual-in_err-map_err-in-Numeral.result c.from_residual-in_err-map_err-in-Numeral.ensures.1 in
    rw (p.1, p.2, placed) (faulty_first Part (part_items c.args.scope.number c.args.scope.bound) (any Part) (Number n) (item (Numeral n) (counts c.args.scope.number)) [] refl _ nx.0 c.in_ok-seen.seen fault.reason nx.1 c.in-Numeral.is (sym c.check_number.ensures ∙ ap result_err refused))

pub returns-in_ok-map_err-in-Numeral : goal.returns-in_ok-map_err-in-Numeral
returns-in_ok-map_err-in-Numeral c =
    let nx = c.in_ok-seen.ensures in
    let sound : c.check_number.result ≡ Ok tt = search rules in
    one _ nx.0 _ c.in_ok-seen.seen (item (Numeral c.in-Numeral.number) (counts c.args.scope.number)) nx.1 nx.2 c.in-Numeral.is refl (sym c.check_number.ensures ∙ ap result_err sound)

pub returns-in_err-map_err-in-Lettered : goal.returns-in_err-map_err-in-Lettered
returns-in_err-map_err-in-Lettered c =
    let nx = c.in_ok-seen.ensures in
    let l = c.in-Lettered.letter in
    let fault = c.in_err-map_err-in-Lettered.field-0.0 in
    let refused : c.check_letter.result ≡ Err fault.reason = search rules in
    let placed : fault.place ≡ c.in_ok-seen.seen.place = search rules in
    let p = err_from_is_err_and c.from_residual-in_err-map_err-in-Lettered.result c.from_residual-in_err-map_err-in-Lettered.ensures.1 in
    rw (p.1, p.2, placed) (faulty_first Part (part_items c.args.scope.number c.args.scope.bound) (any Part) (Bound l) (item (Lettered l) (uses c.args.scope.number c.args.scope.bound l)) [] refl _ nx.0 c.in_ok-seen.seen fault.reason nx.1 c.in-Lettered.is (sym c.check_letter.ensures ∙ ap result_err refused))

pub returns-in_ok-map_err-in-Lettered : goal.returns-in_ok-map_err-in-Lettered
returns-in_ok-map_err-in-Lettered c =
    let nx = c.in_ok-seen.ensures in
    let l = c.in-Lettered.letter in
    let sound : c.check_letter.result ≡ Ok tt = search rules in
    one _ nx.0 _ c.in_ok-seen.seen (item (Lettered l) (uses c.args.scope.number c.args.scope.bound l)) nx.1 nx.2 c.in-Lettered.is refl (sym c.check_letter.ensures ∙ ap result_err sound)
