use Rattle.std.proofs.Common.{[], ◌∷◌, ◌++◌, sym, refl, ap, ◌∙◌, append_assoc, append-nil}
use Rattle.std.proofs.lemmas.Result.{err_from_is_err_and}
use Rattle.book.specs.declared.terms.Sum.{Sum}
use Rattle.book.specs.declared.terms.Condition.{Condition}
use Rattle.book.specs.declared.terminals.Terminal.TheVariants.{Compare}
use Rattle.book.specs.Grammar.{mark, sum_items, condition_items}
use Rattle.book.specs.Parts.{SumStops, ConditionStops}
use Rattle.book.proofs.Compose.{start, within, wrong}
use Rattle.book.specs.declared.terms.Sign.TheVariants.{AtMost}
use Rattle.book.proofs.Compose.{passed_then, with-token, flat}
use Rattle.book.proofs.Sums.{some_sum, condition, inv_left, inv_sign, inv_right}
use Rattle.book.proofs.reader.Reader.read_condition.Goals as goal

pub returns-in_err-left : goal.returns-in_err-left
returns-in_err-left c =
    let k = c.args.scope.number in
    let s = c.args.scope.bound in
    let p = err_from_is_err_and c.from_residual.result c.from_residual.ensures.1 in
    rw (p.1, p.2) (within Sum Condition (sum_items k s) SumStops (condition_items k s) ConditionStops [] (λ x. condition x AtMost some_sum) (λ _. mark (Compare AtMost) ∷ sum_items k s some_sum) (λ x. refl) (inv_left k s) _ _ _ _ (start _ _ refl) c.in_err-left.ensures)

pub returns-in_default : goal.returns-in_default
returns-in_default c =
    let k = c.args.scope.number in
    let s = c.args.scope.bound in
    let a = c.in_ok-left.left in
    let told = c.in_ok-left.ensures in
    rw c.fault.ensures (wrong Condition (condition_items k s) ConditionStops (sum_items k s a) (condition a AtMost some_sum) (mark (Compare AtMost) ∷ sum_items k s some_sum) refl _ _ told.0.rest c.in_ok-left.compare told.0.reads refl
    (λ y u more f e. inv_sign k s a c.in_ok-left.compare.terminal told.1 c.in_default.not-Compare y u more e))

pub returns-in_err-right : goal.returns-in_err-right
returns-in_err-right c =
    let k = c.args.scope.number in
    let s = c.args.scope.bound in
    let a = c.in_ok-left.left in
    let g = c.in-Compare.sign in
    let A = sum_items k s a in
    let p = err_from_is_err_and c.from_residual-in_err-right.result c.from_residual-in_err-right.ensures.1 in
    rw (p.1, p.2) (within Sum Condition (sum_items k s) SumStops (condition_items k s) ConditionStops (A ++ (mark (Compare g) ∷ [])) (λ x. condition a g x) (λ _. [])
    (λ x. ap (λ l. A ++ (mark (Compare g) ∷ l)) (sym (append-nil (sum_items k s x))) ∙ sym (append_assoc A (mark (Compare g) ∷ []) (sum_items k s x ++ [])))
    (λ y u v f e. inv_right k s a g y u v f (e ∙ flat A (mark (Compare g)) [] v)) _ _ _ _
    (with-token _ _ A c.in_ok-left.compare (mark (Compare g)) c.in_ok-left.ensures.0 c.in-Compare.is refl refl) c.in_err-right.ensures)

pub returns : goal.returns
returns c =
    let k = c.args.scope.number in
    let s = c.args.scope.bound in
    let g = c.in-Compare.sign in
    let A = sum_items k s c.in_ok-left.left in
    let B = sum_items k s c.in_ok-right.right in
    let told = c.in_ok-right.ensures in (
      passed_then _ _ _ (A ++ (mark (Compare g) ∷ [])) B _ c.in_ok-right.after (append_assoc A (mark (Compare g) ∷ []) B)
          (with-token _ _ A c.in_ok-left.compare (mark (Compare g)) c.in_ok-left.ensures.0 c.in-Compare.is refl refl) told.0,
      told.1,
    )
