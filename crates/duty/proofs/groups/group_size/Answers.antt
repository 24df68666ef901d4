use Rattle.std.proofs.Common.{◌≡◌, ◌+◌, ◌∷◌, nat_lt, sym, ap, ◌∙◌, rules}
use borrow.Author.Tests.{tests}
use Rattle.std.proofs.lemmas.Iterator.{YieldsList-from_slice}
use Rattle.std.proofs.lemmas.Iterator.Search.{YieldsList-from_take_while}
use Rattle.std.proofs.lemmas.Iterator.Consumers.{count_from_yields_List}
use Rattle.std.proofs.lemmas.List.Folds.{length-prefix_len}
use Rattle.std.specs.List.{prefix_len}
use Rattle.duty.specs.declared.entries.Entry.{Entry}
use Rattle.duty.specs.Groups.{group_size}
use Rattle.duty.proofs.groups.group_size.Goals as goal

pub returns-clause-size : goal.returns-clause-size
returns-clause-size c =
    let rest = c.in-Some.rest.now in
    let deeper = λ (x : Entry). nat_lt c.in-Some.head.now.level x.level in
    let some : c.args.entries.now ≡ c.in-Some.head.now ∷ rest = search rules in
    let n : c.count.result ≡ prefix_len deeper rest = count_from_yields_List _ _ c.count.ensures.ran (YieldsList-from_take_while _ deeper (YieldsList-from_slice rest cc) c.take_while.ensures.closure c.take_while.ensures.done (λ x b q k. search (rules, tests))) ∙ length-prefix_len deeper rest in
    ap (λ k. 1 + k) n ∙ sym (ap group_size some)
