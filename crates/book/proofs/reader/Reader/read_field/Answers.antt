use Rattle.std.proofs.Common.{[], sym, refl}
use Rattle.std.proofs.lemmas.Result.{err_from_is_err_and}
use Rattle.feed.specs.declared.fields.Field.{Field}
use Rattle.feed.specs.declared.fields.Field.TheVariants.{Time}
use Rattle.book.specs.declared.refusals.Reason.TheVariants.{Twice}
use Rattle.book.specs.declared.terminals.Terminal.TheVariants.{Named}
use Rattle.book.specs.Grammar.{item, names}
use Rattle.book.specs.Patterns.{field_items}
use Rattle.book.specs.Reading.{any}
use Rattle.book.proofs.Compose.{one, bad-first, wrong_first, faulty_first}
use Rattle.book.proofs.reader.Reader.read_field.Goals as goal

pub returns-in_err-seen : goal.returns-in_err-seen
returns-in_err-seen c =
    let nx = c.in_err-seen.ensures in
    let p = err_from_is_err_and c.from_residual.result c.from_residual.ensures.1 in
    rw (p.1, p.2) (bad-first Field (field_items c.args.fields) (any Field) Time _ nx.0 c.in_err-seen.field-0.0 nx.1)

pub returns-in_default : goal.returns-in_default
returns-in_default c =
    let nx = c.in_ok-seen.ensures in
    rw c.fault.ensures (wrong_first Field (field_items c.args.fields) (any Field) Time _ nx.0 c.in_ok-seen.seen nx.1 (λ x u more f e. c.in_default.not-Named x (cc)))

pub returns-then-has : goal.returns-then-has
returns-then-has c =
    let nx = c.in_ok-seen.ensures in
    let f = c.in-Named.field in
    rw c.fault-then-has.ensures (faulty_first Field (field_items c.args.fields) (any Field) f (item (Named f) (names c.args.fields f)) [] refl _ nx.0 c.in_ok-seen.seen Twice nx.1 c.in-Named.is (simp (sym c.if-has.ensures)))

pub returns : goal.returns
returns c =
    let nx = c.in_ok-seen.ensures in
    one _ nx.0 _ c.in_ok-seen.seen (item (Named c.in-Named.field) (names c.args.fields c.in-Named.field)) nx.1 nx.2 c.in-Named.is refl (simp (sym c.if-has.ensures))
