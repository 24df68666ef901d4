use Rattle.std.proofs.Common.{ap, ◌∙◌}
use Rattle.pages.specs.Pages.{paging, written}
use Rattle.pages.proofs.PagesShown.{rows_after-made, shows_sheet}
use Rattle.pages.proofs.sheets.write_sheet.Goals as goal

pub returns : goal.returns
returns c =
    let vs = c.args.verdicts.now in
    let rows = rows_after-made vs 0 0 c.args.sheet.now in
    record {
      answer = c.write_page.ensures.answer ∙ ap (λ p. paging p c.args.out.now) rows;
      bytes = c.write_page.ensures.bytes ∙ ap (λ p. written p c.args.out.now) rows;
      page = shows_sheet vs c.args.sheet.now;
    }
