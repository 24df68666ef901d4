use Rattle.runs.proofs.Counted.{first_counted, second-counted}
use Rattle.runs.proofs.counts.TurnCountObserver.note.Goals as goal

pub returns-in-First-clause-seen : goal.returns-in-First-clause-seen
returns-in-First-clause-seen g c = λ ms h. first_counted _ _ ms _ h c.saturating_add-self.result c.in-First.is c.saturating_add-self.ensures

pub returns-in-Second-clause-seen : goal.returns-in-Second-clause-seen
returns-in-Second-clause-seen g c = λ ms h. second-counted _ _ ms _ h c.saturating_add-self-in-Second.result c.in-Second.is c.saturating_add-self-in-Second.ensures
