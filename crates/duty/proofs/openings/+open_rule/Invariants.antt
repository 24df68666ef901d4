use Rattle.duty.proofs.openings.+open_rule.Given as goal

abbrev pub decreases-open_rule : goal.decreases-open_rule
decreases-open_rule l = l.place.budget
