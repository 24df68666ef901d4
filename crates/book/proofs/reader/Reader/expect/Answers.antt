use Rattle.std.proofs.Common.{sym, refl}
use Rattle.std.proofs.lemmas.Result.{err_from_is_err_and}
use Rattle.book.specs.Grammar.{mark}
use Rattle.book.specs.Readers.{only_items}
use Rattle.book.specs.Reading.{any}
use Rattle.book.proofs.Compose.{one, bad-first, wrong_first}
use Rattle.book.proofs.Equal.{same, differ}
use Rattle.book.proofs.reader.Reader.expect.Goals as goal

pub returns-in_err-seen : goal.returns-in_err-seen
returns-in_err-seen c =
    let nx = c.in_err-seen.ensures in
    let p = err_from_is_err_and c.from_residual.result c.from_residual.ensures.1 in
    rw (p.1, p.2) (bad-first (Unit {0}) (only_items c.args.expected) (any (Unit {0})) tt _ nx.0 c.in_err-seen.field-0.0 nx.1)

pub returns-then-eq : goal.returns-then-eq
returns-then-eq c =
    let nx = c.in_ok-seen.ensures in
    let is = same c.in_ok-seen.seen.terminal c.args.expected (sym c.if-eq.ensures) in
    one _ nx.0 _ c.in_ok-seen.seen (mark c.args.expected) nx.1 nx.2 is c.requires refl

pub returns : goal.returns
returns c =
    let nx = c.in_ok-seen.ensures in
    let not = differ c.in_ok-seen.seen.terminal c.args.expected (sym c.if-eq.ensures) in
    rw c.fault.ensures (wrong_first (Unit {0}) (only_items c.args.expected) (any (Unit {0})) tt _ nx.0 c.in_ok-seen.seen nx.1 (λ x u more f e. not (cc)))
