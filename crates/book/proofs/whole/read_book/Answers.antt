use Rattle.std.proofs.Common.{Ok, Err, vec_items, sym, subst}
use Rattle.std.proofs.lemmas.Result.{err_from_is_err_and}
use Rattle.book.specs.declared.refusals.Refusal.TheVariants.{Faulty}
use Rattle.book.specs.Grammar.{items}
use Rattle.book.specs.Faults.{Accepted, long}
use Rattle.book.specs.Readers.{coming}
use Rattle.book.specs.Trees.{pure_rules}
use Rattle.book.proofs.Texts.{answered, whole_book, whole_failed, sound-kept}
use Rattle.book.proofs.whole.read_book.Goals as goal

pub returns-then-text-gt-BYTES : goal.returns-then-text-gt-BYTES
returns-then-text-gt-BYTES c = rw c.into.ensures (answered c.args.text.now (Err (Faulty _)) (long c.if-text-gt-BYTES.true))

pub returns-in_err-rules : goal.returns-in_err-rules
returns-in_err-rules c =
    let p = err_from_is_err_and c.from_residual.result c.from_residual.ensures.1 in
    rw (p.1, p.2) (whole_failed c.args.text.now (coming c.new.result) c.new.ensures c.if-text-gt-BYTES.false c.in_err-rules.field-0.0 c.in_err-rules.ensures)

pub of-requires : goal.of-requires
of-requires c =
    let rs = vec_items c.in_ok-rules.rules in
    let a : Accepted c.args.text.now (pure_rules rs) = whole_book c.args.text.now (coming c.new.result) rs c.new.ensures c.if-text-gt-BYTES.false c.in_ok-rules.ensures in
    record { kept = sound-kept (items (pure_rules rs)) a.sound; written = ∣ (c.args.text.now, a) ∣₁ }

pub returns : goal.returns
returns c =
    let rs = vec_items c.in_ok-rules.rules in
    let a : Accepted c.args.text.now (pure_rules rs) = whole_book c.args.text.now (coming c.new.result) rs c.new.ensures c.if-text-gt-BYTES.false c.in_ok-rules.ensures in
    answered c.args.text.now (Ok c.of.result) (subst (λ v. Accepted c.args.text.now (pure_rules (vec_items v))) (sym c.of.ensures) a)
