use Rattle.std.proofs.Common.{◌≡◌, false, ◌∷◌, Ok, sym, refl, ap, ◌∙◌}
use Rattle.tokens.specs.Text.{Stretch, word, number, symbol, stray, end}
use Rattle.tokens.specs.Text as text
use Rattle.tokens.specs.Tokens.{stretch_of}
use Rattle.book.specs.declared.terminals.Terminal.{Terminal}
use Rattle.book.specs.Text.{lexeme, meaning, meanings}
use Rattle.book.specs.Readers.{is_end}
use Rattle.book.proofs.reader.Reader.next.Goals as goal

-- only the end means the end
goes : (s : Stretch) (t : Terminal) → Ok t ≡ meaning s → is_end t ≡ false → text.is_end s ≡ false
goes (word w) t e f = refl
goes (number w) t e f = refl
goes (symbol s) t e f = refl
goes stray t e f = refl
goes end t e f = absurd (cc)

pub returns-in-Ok : goal.returns-in-Ok
returns-in-Ok c =
    let nx = c.next-found.ensures in
    let found = c.next-found.result in
    let e : Ok c.in-Ok.terminal ≡ meaning (stretch_of found.token) = c.in-Ok.ensures in (
      meanings nx.rest,
      ap meanings nx.split ∙ ap (λ g. lexeme found.place g ∷ meanings nx.rest) (sym e),
      λ f. ap meanings (nx.goes (goes (stretch_of found.token) c.in-Ok.terminal e f)),
    )

pub returns-in-Err : goal.returns-in-Err
returns-in-Err c =
    let nx = c.next-found.ensures in
    let found = c.next-found.result in
    (meanings nx.rest, ap meanings nx.split ∙ ap (λ g. lexeme found.place g ∷ meanings nx.rest) (sym c.in-Err.ensures))
