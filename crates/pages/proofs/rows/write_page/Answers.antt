use Rattle.std.proofs.Common.{◌*◌, length, sym, ap, ◌∙◌}
use Rattle.pages.specs.Rows.{rows_of}
use Rattle.pages.proofs.RoomShown.{answers, refused_stays, answered_holds}
use Rattle.pages.proofs.RowsMade.{length-rows_of}
use Rattle.pages.proofs.rows.write_page.Goals as goal

pub returns-in_err-total : goal.returns-in_err-total
returns-in_err-total g c =
    let xs = c.args.rows.now in
    let page = rows_of g.R.Row.bytes (g.R.Row.rule c.args.verdicts.now) 0 0 xs in
    let long = length-rows_of _ _ _ g.met.R.Row.wide 0 0 xs ∙ ap (λ w. w * length xs) (sym c.WIDTH.ensures) in
    let none = sym c.in_err-total.was ∙ answers page c.args.out.now _ _ long c.page_length.ensures in
    record { answer = c.from_residual.ensures ∙ none; bytes = refused_stays page c.args.out.now none }

pub returns : goal.returns
returns g c =
    let xs = c.args.rows.now in
    let page = rows_of g.R.Row.bytes (g.R.Row.rule c.args.verdicts.now) 0 0 xs in
    let wide = length-rows_of _ _ _ g.met.R.Row.wide 0 0 xs in
    let long = wide ∙ ap (λ w. w * length xs) (sym c.WIDTH.ensures) in
    let some = sym c.in_ok-total.was ∙ answers page c.args.out.now _ _ long c.page_length.ensures in
    record { answer = some; bytes = answered_holds page c.args.out.now _ _ _ wide some c.write_rows.ensures }
