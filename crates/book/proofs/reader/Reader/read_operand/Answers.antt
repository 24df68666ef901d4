use Rattle.std.proofs.Common.{[], sym, refl}
use Rattle.std.proofs.lemmas.Result.{err_from_is_err_and}
use Rattle.book.specs.declared.refusals.Reason.TheVariants.{Twice}
use Rattle.book.specs.declared.terms.Operand.{Operand}
use Rattle.book.specs.declared.terms.Operand.TheVariants.{Number, Bound}
use Rattle.book.specs.declared.terminals.Terminal.TheVariants.{Lettered, Numeral}
use Rattle.book.specs.Grammar.{item, mark, binds}
use Rattle.book.specs.Patterns.{operand_items}
use Rattle.book.specs.Reading.{any}
use Rattle.book.proofs.Compose.{one, bad-first, wrong_first, faulty_first}
use Rattle.book.proofs.Lists.{operand_first}
use Rattle.book.proofs.reader.Reader.read_operand.Goals as goal

pub returns-in_err-seen : goal.returns-in_err-seen
returns-in_err-seen c =
    let nx = c.in_err-seen.ensures in
    let p = err_from_is_err_and c.from_residual.result c.from_residual.ensures.1 in
    rw (p.1, p.2) (bad-first Operand (operand_items c.args.letters) (any Operand) (Number 0) _ nx.0 c.in_err-seen.field-0.0 nx.1)

pub returns-in_default : goal.returns-in_default
returns-in_default c =
    let nx = c.in_ok-seen.ensures in
    rw c.fault-in_default.ensures (wrong_first Operand (operand_items c.args.letters) (any Operand) (Number 0) _ nx.0 c.in_ok-seen.seen nx.1
    (λ x u more f e. operand_first c.args.letters x c.in_ok-seen.seen.terminal u more e c.in_default.not-Numeral c.in_default.not-Lettered))

pub returns-in-Numeral : goal.returns-in-Numeral
returns-in-Numeral c =
    let nx = c.in_ok-seen.ensures in
    one _ nx.0 _ c.in_ok-seen.seen (mark (Numeral c.in-Numeral.number)) nx.1 nx.2 c.in-Numeral.is refl refl

pub returns-then-has : goal.returns-then-has
returns-then-has c =
    let nx = c.in_ok-seen.ensures in
    let l = c.in-Lettered.letter in
    rw c.fault.ensures (faulty_first Operand (operand_items c.args.letters) (any Operand) (Bound l) (item (Lettered l) (binds c.args.letters l)) [] refl _ nx.0 c.in_ok-seen.seen Twice nx.1 c.in-Lettered.is (simp (sym c.if-has.ensures)))

pub returns-else-has : goal.returns-else-has
returns-else-has c =
    let nx = c.in_ok-seen.ensures in
    let l = c.in-Lettered.letter in
    one _ nx.0 _ c.in_ok-seen.seen (item (Lettered l) (binds c.args.letters l)) nx.1 nx.2 c.in-Lettered.is refl (simp (sym c.if-has.ensures))
