use Rattle.std.proofs.Common.{rules}
use Rattle.std.proofs.lemmas.Iterator.{YieldsList-from_slice}
use Rattle.std.proofs.lemmas.Iterator.Adapters.{serves_from_places}
use Rattle.duty.proofs.Matches.{number_at}
use Rattle.duty.proofs.matching.all_hold.Goals as goal

pub all-requires-clause-callable : goal.all-requires-clause-callable
all-requires-clause-callable c =
    serves_from_places (YieldsList-from_slice c.args.conditions.now cc) (λ x q k. search rules)
    (λ x k lt is. λ _ _ _ _ _ _. number_at c.args.conditions.now k x.now lt is c.requires)
