use Rattle.std.proofs.Common.{ap, ◌∙◌}
use Rattle.pages.specs.Pages.{paging, written}
use Rattle.pages.proofs.PagesShown.{verdict_rows-made}
use Rattle.pages.proofs.verdicts.write_verdicts.Goals as goal

pub returns : goal.returns
returns c =
    let rows = verdict_rows-made 0 0 c.args.verdicts.now in
    record {
      answer = c.write_page.ensures.answer ∙ ap (λ p. paging p c.args.out.now) rows;
      bytes = c.write_page.ensures.bytes ∙ ap (λ p. written p c.args.out.now) rows;
    }
