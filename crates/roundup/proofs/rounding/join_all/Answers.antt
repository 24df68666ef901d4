use Rattle.std.proofs.Common.{◌≡◌, rules, subst}
use Rattle.std.proofs.lemmas.Fn.{fold_over, slice_gives, fronts}
use Rattle.std.specs.Iterator.{AlwaysYields}
use Rattle.roundup.specs.Rounding.{joined_all}
use Rattle.roundup.proofs.Stretches.{joined_push}
use Rattle.roundup.proofs.rounding.join_all.Goals as goal

pub returns : goal.returns
returns g c =
    let k = g.K.Joining in
    let laws = g.met.K.Joining in
    let items = subst (λ l. AlwaysYields fronts (λ y. y.now) c.iter.result l) c.iter.ensures.rest (slice_gives c.iter.result) in
    fold_over fronts (λ y. y.now) _ (λ ys a. a ≡ joined_all k.join k.neutral ys) _
    (λ ys a x b f' is call. let made = joined_push k.join k.neutral laws.regrouped laws.exchanged laws.unchanged a x.now ys is in search rules)
    c.iter.result c.args.results.now c.neutral.result c.fold.result items c.neutral.ensures c.fold.ensures.ran
