use Rattle.std.proofs.Common.{◌≡◌, ◌+◌, ◌≤◌, List, [], ◌∷◌, Ok, Err, vec_len, vec_items, refl, ap, arith}
use Rattle.std.proofs.lemmas.Result.{err_from_is_err_and}
use Rattle.book.specs.declared.refusals.Refusal.TheVariants.{Faulty}
use Rattle.book.specs.declared.terms.Condition.{Condition}
use Rattle.book.specs.declared.terminals.Terminal.TheVariants.{Comma, CloseSquare}
use Rattle.book.specs.Grammar.{mark, condition_items}
use Rattle.book.specs.Patterns.{conditions_closed}
use Rattle.book.specs.Parts.{ConditionStops}
use Rattle.book.specs.Reading.{any}
use Rattle.book.specs.Readers.{coming}
use Rattle.book.proofs.Compose.{start, within, wrong, with-token}
use Rattle.book.proofs.Lists.{move_number, inv_condition, inv_after, more_conditions, few_conditions}
use Rattle.book.proofs.reader.Reader.read_conditions.Goals as goal

pub returns-in_err-condition : goal.returns-in_err-condition
returns-in_err-condition c =
    let k = c.len-number.result + 1 in
    let s = c.args.bound in
    let xs = vec_items c.loop-conditions.conditions in
    let here = coming c.loop-conditions.self in
    let e = c.in_err-condition.field-0.0 in
    let p = err_from_is_err_and c.from_residual.result c.from_residual.ensures.1 in
    rw (p.1, p.2) (c.loop-conditions.invariant.whole (Err (Faulty e)) here xs (move_number k _ s here (Err (Faulty e)) here xs xs (ap (λ m. m + 1) c.len-number.ensures)
    (within Condition (Condition × List Condition) (condition_items k s) ConditionStops (conditions_closed k s) (any (Condition × List Condition)) [] (λ x. (x, [])) (λ _. mark CloseSquare ∷ []) (λ _. refl)
    (λ y u v _ q. inv_condition k s y.0 y.1 u v q) _ _ _ _ (start _ _ refl) c.in_err-condition.ensures)))

pub returns-in-CloseSquare : goal.returns-in-CloseSquare
returns-in-CloseSquare c =
    let k = c.len-number.result + 1 in
    let s = c.args.bound in
    let a = c.in_ok-condition.condition in
    let xs = vec_items c.loop-conditions.conditions in
    let ys = vec_items c.push.new.self in
    let here = coming c.loop-conditions.self in
    let to = coming c.read_condition.new.self in
    c.loop-conditions.invariant.whole (Ok tt) to ys (move_number k _ s here (Ok tt) to xs ys (ap (λ m. m + 1) c.len-number.ensures)
    (a, [], c.in_ok-push.ensures.items, with-token _ _ (condition_items k s a) c.in_ok-condition.after (mark CloseSquare) c.in_ok-condition.ensures.0 c.in-CloseSquare.is refl refl))

pub loop-conditions-preserved : goal.loop-conditions-preserved
loop-conditions-preserved c =
    let k = c.len-number.result + 1 in
    let s = c.args.bound in
    let a = c.in_ok-condition.condition in
    let xs = vec_items c.loop-conditions.conditions in
    let ys = vec_items c.push.new.self in
    let here = coming c.loop-conditions.self in
    let mid = coming c.read_condition.new.self in
    let few : k ≤ 4 = few_conditions k s a c.in_ok-condition.ensures.0.reads.sound in
    let longer = c.in_ok-push.ensures.len in
    let next : vec_len c.push.new.self + 1 ≡ k + 1 = omega (arith, longer, c.len-number.ensures) in
    record {
      few = omega (arith, few, longer, c.len-number.ensures);
      whole = λ r to zs h. c.loop-conditions.invariant.whole r to zs (move_number k _ s here r to xs zs (ap (λ m. m + 1) c.len-number.ensures)
          (more_conditions k s a here mid to xs ys zs
          (with-token _ _ (condition_items k s a) c.in_ok-condition.after (mark Comma) c.in_ok-condition.ensures.0 c.in-Comma.is refl refl)
          c.in_ok-push.ensures.items r (move_number _ (k + 1) s mid r to ys zs next h)));
    }

pub returns-in_default : goal.returns-in_default
returns-in_default c =
    let k = c.len-number.result + 1 in
    let s = c.args.bound in
    let a = c.in_ok-condition.condition in
    let xs = vec_items c.loop-conditions.conditions in
    let here = coming c.loop-conditions.self in
    let told = c.in_ok-condition.ensures in
    let e = c.fault.result in
    rw c.into.ensures (c.loop-conditions.invariant.whole (Err (Faulty e)) here xs (move_number k _ s here (Err (Faulty e)) here xs xs (ap (λ m. m + 1) c.len-number.ensures)
    (rw c.fault.ensures (wrong (Condition × List Condition) (conditions_closed k s) (any (Condition × List Condition)) (condition_items k s a) (a, []) (mark CloseSquare ∷ []) refl _ _ told.0.rest c.in_ok-condition.after told.0.reads refl
    (λ y u more f e. inv_after k s a c.in_ok-condition.after.terminal told.1 c.in_default.not-CloseSquare c.in_default.not-Comma y.0 y.1 u more e)))))
