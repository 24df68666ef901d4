use Rattle.std.proofs.Common.{[], ◌∷◌, ◌++◌, sym, refl, ap, ◌∙◌, append_assoc, append-nil}
use Rattle.std.proofs.lemmas.Result.{err_from_is_err_and}
use Rattle.book.specs.declared.terms.Part.{Part}
use Rattle.book.specs.declared.terms.Sum.{Sum}
use Rattle.book.specs.declared.terms.Sum.TheVariants.{One, Two, Three}
use Rattle.book.specs.declared.terminals.Terminal.TheVariants.{Plus}
use Rattle.book.specs.Grammar.{mark, part_items, sum_items, tokens_of}
use Rattle.book.specs.Parts.{PartStops, SumStops}
use Rattle.book.proofs.Compose.{start, read_on, alike, within}
use Rattle.book.proofs.Sums.{inv_one, inv_two, inv_three}
use Rattle.book.proofs.Compose.{passed_then, with-token, flat}
use Rattle.book.proofs.reader.Reader.read_sum.Goals as goal

pub returns-in_err-first : goal.returns-in_err-first
returns-in_err-first c =
    let k = c.args.scope.number in
    let s = c.args.scope.bound in
    let p = err_from_is_err_and c.from_residual.result c.from_residual.ensures.1 in
    rw (p.1, p.2) (within Part Sum (part_items k s) PartStops (sum_items k s) SumStops [] (λ x. One x) (λ _. []) (λ x. sym (append-nil (part_items k s x))) (inv_one k s) _ _ _ _ (start _ _ refl) c.in_err-first.ensures)

pub returns-in_err-second : goal.returns-in_err-second
returns-in_err-second c =
    let k = c.args.scope.number in
    let s = c.args.scope.bound in
    let a = c.in_ok-first.first in
    let A = part_items k s a in
    let p = err_from_is_err_and c.from_residual-in_err-second.result c.from_residual-in_err-second.ensures.1 in
    rw (p.1, p.2) (within Part Sum (part_items k s) PartStops (sum_items k s) SumStops (A ++ (mark Plus ∷ [])) (λ x. Two a x) (λ _. [])
    (λ x. ap (λ l. A ++ (mark Plus ∷ l)) (sym (append-nil (part_items k s x))) ∙ sym (append_assoc A (mark Plus ∷ []) (part_items k s x ++ [])))
    (λ y u v f e. inv_two k s a y u v f (e ∙ flat A (mark Plus) [] v)) _ _ _ _
    (with-token _ _ A c.in_ok-first.plus (mark Plus) c.in_ok-first.ensures.0 c.in-Plus.is refl refl) c.in_err-second.ensures)

pub returns-in_default-terminal : goal.returns-in_default-terminal
returns-in_default-terminal c =
    let k = c.args.scope.number in
    let s = c.args.scope.bound in
    let A = part_items k s c.in_ok-first.first in
    let B = part_items k s c.in_ok-second.second in
    let two = c.in_ok-second.ensures in (
      passed_then _ _ _ (A ++ (mark Plus ∷ [])) B _ c.in_ok-second.more (append_assoc A (mark Plus ∷ []) B)
          (with-token _ _ A c.in_ok-first.plus (mark Plus) c.in_ok-first.ensures.0 c.in-Plus.is refl refl) two.0,
      (c.in_default-terminal.not-Plus, two.1),
    )

pub returns-in_err-third : goal.returns-in_err-third
returns-in_err-third c =
    let k = c.args.scope.number in
    let s = c.args.scope.bound in
    let a = c.in_ok-first.first in
    let b = c.in_ok-second.second in
    let A = part_items k s a in
    let B = part_items k s b in
    let p = err_from_is_err_and c.from_residual-in_err-third.result c.from_residual-in_err-third.ensures.1 in
    rw (p.1, p.2) (within Part Sum (part_items k s) PartStops (sum_items k s) SumStops (A ++ (mark Plus ∷ (B ++ (mark Plus ∷ [])))) (λ x. Three a b x) (λ _. [])
    (λ x. ap (λ l. A ++ (mark Plus ∷ (B ++ (mark Plus ∷ l)))) (sym (append-nil (part_items k s x))) ∙ ap (λ l. A ++ (mark Plus ∷ l)) (sym (append_assoc B (mark Plus ∷ []) (part_items k s x ++ []))) ∙ sym (append_assoc A (mark Plus ∷ (B ++ (mark Plus ∷ []))) (part_items k s x ++ [])))
    (λ y u v f e. inv_three k s a b y u v f (e ∙ flat A (mark Plus) (B ++ (mark Plus ∷ [])) v ∙ ap (λ l. tokens_of A ++ Plus ∷ l) (flat B (mark Plus) [] v))) _ _ _ _
    (alike _ _ _ _ (append_assoc A (mark Plus ∷ []) (B ++ (mark Plus ∷ [])))
    (read_on _ _ _ (A ++ (mark Plus ∷ [])) (B ++ (mark Plus ∷ []))
    (with-token _ _ A c.in_ok-first.plus (mark Plus) c.in_ok-first.ensures.0 c.in-Plus.is refl refl)
    (with-token _ _ B c.in_ok-second.more (mark Plus) c.in_ok-second.ensures.0 c.in-Plus-terminal.is refl refl)))
    c.in_err-third.ensures)

pub returns : goal.returns
returns c =
    let k = c.args.scope.number in
    let s = c.args.scope.bound in
    let A = part_items k s c.in_ok-first.first in
    let B = part_items k s c.in_ok-second.second in
    let C = part_items k s c.in_ok-third.third in
    let three = c.in_ok-third.ensures in (
      passed_then _ _ _ ((A ++ (mark Plus ∷ [])) ++ (B ++ (mark Plus ∷ []))) C _ c.in_ok-third.after
          (append_assoc (A ++ (mark Plus ∷ [])) (B ++ (mark Plus ∷ [])) C ∙ append_assoc A (mark Plus ∷ []) ((B ++ (mark Plus ∷ [])) ++ C) ∙ ap (λ l. A ++ (mark Plus ∷ l)) (append_assoc B (mark Plus ∷ []) C))
          (read_on _ _ _ (A ++ (mark Plus ∷ [])) (B ++ (mark Plus ∷ []))
          (with-token _ _ A c.in_ok-first.plus (mark Plus) c.in_ok-first.ensures.0 c.in-Plus.is refl refl)
          (with-token _ _ B c.in_ok-second.more (mark Plus) c.in_ok-second.ensures.0 c.in-Plus-terminal.is refl refl))
          three.0,
      three.1,
    )
