use Rattle.roundup.proofs.Stretches.{cut_in_two}
use Rattle.roundup.proofs.rounding.round_up.Goals as goal

pub returns-clause-cut : goal.returns-clause-cut
returns-clause-cut g c =
    let laws = g.met.K.Joining in
    cut_in_two g.K.Joining.join g.K.Joining.neutral laws.regrouped laws.exchanged laws.unchanged
