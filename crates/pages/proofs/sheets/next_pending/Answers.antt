use Rattle.std.proofs.Common.{◌≡◌, suc, drop, arith, rules, tests, ◌∙◌}
use Rattle.std.proofs.lemmas.Iterator.{YieldsList-from_slice}
use Rattle.std.proofs.lemmas.Iterator.Adapters.{YieldsList-from_skip, position_from-zero}
use Rattle.std.proofs.lemmas.Iterator.Search.{position_from_yields_List}
use Rattle.std.proofs.lemmas.Grind.{common_steps}
use Rattle.std.specs.List.{position_from}
use Rattle.pages.proofs.PagesShown.{is_pending, reached, next_is}
use Rattle.pages.proofs.sheets.next_pending.Goals as goal

pub returns : goal.returns
returns c =
    let vs = c.args.verdicts.now in
    let n = c.args.rule in
    let rest = drop n vs in
    let o = c.position.result in
    let found : o ≡ position_from is_pending 0 rest =
    position_from_yields_List is_pending _ _ o c.position.ensures.ran (YieldsList-from_skip n (YieldsList-from_slice vs (cc)) c.skip.ensures.count) (λ x b q k. search (rules, tests))
    ∙ position_from-zero is_pending rest in
    let at : c.map_or.result ≡ reached n (suc n) o = grind (arith, common_steps) in
    at ∙ next_is vs n o found
