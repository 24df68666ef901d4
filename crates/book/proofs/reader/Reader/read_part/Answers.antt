use Rattle.std.proofs.Common.{[], ◌∷◌, sym, refl, ap, append-nil}
use Rattle.std.proofs.lemmas.Result.{err_from_is_err_and}
use Rattle.book.specs.declared.terms.Letter.{Letter}
use Rattle.book.specs.declared.terms.Part.{Part}
use Rattle.book.specs.declared.terms.Part.TheVariants.{Product}
use Rattle.book.specs.declared.terminals.Terminal.TheVariants.{Numeral, Times}
use Rattle.book.specs.Grammar.{item, mark, counts, part_items}
use Rattle.book.specs.Parts.{letter_items, PartStops}
use Rattle.book.specs.Reading.{any}
use Rattle.book.proofs.Compose.{read_on, alike, one, within, no_token}
use Rattle.book.proofs.Sums.{inv_product}
use Rattle.book.proofs.Compose.{weaken, passed}
use Rattle.book.proofs.reader.Reader.read_part.Goals as goal

pub returns-in_err-lead : goal.returns-in_err-lead
returns-in_err-lead c =
    let p = err_from_is_err_and c.from_residual.result c.from_residual.ensures.1 in
    rw (p.1, p.2) (weaken Part (part_items c.args.scope.number c.args.scope.bound) PartStops _ _ _ c.in_err-lead.ensures)

pub returns-in_err-seen : goal.returns-in_err-seen
returns-in_err-seen c =
    let nx = c.in_err-seen.ensures in
    let lead = c.in_ok-lead.lead in
    let p = err_from_is_err_and c.from_residual-in_err-seen.result c.from_residual-in_err-seen.ensures.1 in
    rw (p.1, p.2) (no_token Part (part_items c.args.scope.number c.args.scope.bound) PartStops (part_items c.args.scope.number c.args.scope.bound lead) lead [] (sym (append-nil _)) _ _ nx.0 c.in_err-seen.field-0.0 c.in_ok-lead.ensures nx.1)

pub returns-in_err-letter : goal.returns-in_err-letter
returns-in_err-letter c =
    let k = c.args.scope.number in
    let s = c.args.scope.bound in
    let n = c.in-Number.number in
    let nx = c.in_ok-seen.ensures in
    let p = err_from_is_err_and c.from_residual-in_err-letter.result c.from_residual-in_err-letter.ensures.1 in
    let first = alike _ _ _ _ (ap (part_items k s) c.in-Number.is) c.in_ok-lead.ensures in
    rw (p.1, p.2) (within Letter Part (letter_items k s) (any Letter) (part_items k s) PartStops (item (Numeral n) (counts k) ∷ mark Times ∷ []) (λ l. Product n l) (λ _. []) (λ _. refl) (inv_product k s n) _ _ _ _
    (read_on _ _ _ (item (Numeral n) (counts k) ∷ []) (mark Times ∷ []) first (one _ nx.0 _ c.in_ok-seen.seen (mark Times) nx.1 nx.2 c.in-Times.is refl refl))
    c.in_err-letter.ensures)

pub returns-in_err-after : goal.returns-in_err-after
returns-in_err-after c =
    let k = c.args.scope.number in
    let s = c.args.scope.bound in
    let n = c.in-Number.number in
    let l = c.in_ok-letter.letter in
    let nx = c.in_ok-seen.ensures in
    let ny = c.in_err-after.ensures in
    let p = err_from_is_err_and c.from_residual-in_err-after.result c.from_residual-in_err-after.ensures.1 in
    let first = alike _ _ _ _ (ap (part_items k s) c.in-Number.is) c.in_ok-lead.ensures in
    rw (p.1, p.2) (no_token Part (part_items k s) PartStops (part_items k s (Product n l)) (Product n l) [] refl _ _ ny.0 c.in_err-after.field-0.0
    (read_on _ _ _ (item (Numeral n) (counts k) ∷ mark Times ∷ []) (letter_items k s l)
    (read_on _ _ _ (item (Numeral n) (counts k) ∷ []) (mark Times ∷ []) first (one _ nx.0 _ c.in_ok-seen.seen (mark Times) nx.1 nx.2 c.in-Times.is refl refl))
    c.in_ok-letter.ensures) ny.1)

pub returns : goal.returns
returns c =
    let k = c.args.scope.number in
    let s = c.args.scope.bound in
    let n = c.in-Number.number in
    let l = c.in_ok-letter.letter in
    let nx = c.in_ok-seen.ensures in
    let ny = c.in_ok-after.ensures in
    let first = alike _ _ _ _ (ap (part_items k s) c.in-Number.is) c.in_ok-lead.ensures in (
      passed _ _ ny.0 _ (part_items k s (Product n l)) c.in_ok-after.after
          (read_on _ _ _ (item (Numeral n) (counts k) ∷ mark Times ∷ []) (letter_items k s l)
          (read_on _ _ _ (item (Numeral n) (counts k) ∷ []) (mark Times ∷ []) first (one _ nx.0 _ c.in_ok-seen.seen (mark Times) nx.1 nx.2 c.in-Times.is refl refl))
          c.in_ok-letter.ensures) ny.1 ny.2,
      tt,
    )
