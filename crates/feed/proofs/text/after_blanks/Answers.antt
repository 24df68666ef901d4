use Rattle.std.proofs.Common.{ap, ◌∙◌, drop}
use Rattle.std.proofs.lemmas.List.{take_rest}
use Rattle.feed.proofs.Columns.{behind_blanks}
use Rattle.feed.proofs.text.after_blanks.Goals as goal

pub returns-clause-rest : goal.returns-clause-rest
returns-clause-rest c =
    let bs = c.args.bytes.now in
    take_rest bs c.count_blanks.result ∙ ap (λ k. drop k bs) c.count_blanks.ensures.count ∙ behind_blanks bs
