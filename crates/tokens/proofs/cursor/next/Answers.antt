use Rattle.std.proofs.Common.{◌+◌, [], ◌∷◌, sym, refl, ap, ◌∙◌}
use Rattle.tokens.specs.Text.{placed}
use Rattle.tokens.specs.Tokens.{tokens_at, stretch_of}
use Rattle.tokens.proofs.Lexing.{at_end}
use Rattle.tokens.proofs.cursor.next.Goals as goal

pub returns-then-place-text : goal.returns-then-place-text
returns-then-place-text c =
    record { rest = []; split = c.skip_blanks-place.ensures.same ∙ at_end _ _ c.if-place-text.true; goes = λ e. cc }

pub returns : goal.returns
returns c =
    let told = c.token_at-token.ensures in
    let p = c.skip_blanks-place.result in
    let bs = c.args.cur.now.text.now in
    record {
      rest = tokens_at bs (p + c.len.result);
      split = c.skip_blanks-place.ensures.same ∙ told.step ∙ ap (λ k. placed p (stretch_of c.token_at-token.result) ∷ tokens_at bs (p + k)) (sym c.len.ensures);
      goes = λ _. refl;
    }
