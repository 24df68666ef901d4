use Rattle.std.proofs.Common.{refl}
use Rattle.std.proofs.lemmas.Result.{err_from_is_err_and}
use Rattle.book.specs.declared.terms.BracketKind.{BracketKind}
use Rattle.book.specs.declared.terms.BracketKind.TheVariants as kinds
use Rattle.book.specs.declared.terminals.Terminal.TheVariants.{Joint}
use Rattle.book.specs.Grammar.{mark}
use Rattle.book.specs.Nodes.{joint_items}
use Rattle.book.specs.Reading.{any}
use Rattle.book.proofs.Compose.{one, bad-first, wrong_first}
use Rattle.book.proofs.reader.Reader.read_joint.Goals as goal

pub returns-in_err-seen : goal.returns-in_err-seen
returns-in_err-seen c =
    let nx = c.in_err-seen.ensures in
    let p = err_from_is_err_and c.from_residual.result c.from_residual.ensures.1 in
    rw (p.1, p.2) (bad-first BracketKind joint_items (any BracketKind) kinds.Else _ nx.0 c.in_err-seen.field-0.0 nx.1)

pub returns-in_default : goal.returns-in_default
returns-in_default c =
    let nx = c.in_ok-seen.ensures in
    rw c.fault.ensures (wrong_first BracketKind joint_items (any BracketKind) kinds.Else _ nx.0 c.in_ok-seen.seen nx.1 (λ x u more f e. c.in_default.not-Joint x (cc)))

pub returns : goal.returns
returns c =
    let nx = c.in_ok-seen.ensures in
    one _ nx.0 _ c.in_ok-seen.seen (mark (Joint c.in-Joint.kind)) nx.1 nx.2 c.in-Joint.is refl refl
