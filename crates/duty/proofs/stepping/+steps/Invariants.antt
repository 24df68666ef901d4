use Rattle.std.proofs.Common.{◌+◌, ◌*◌, length}
use Rattle.book.specs.Trees.{pure_rule}
use Rattle.duty.proofs.Loops.{Goes}
use Rattle.duty.proofs.stepping.+steps.Given as goal

-- a rule goes into the function of its kind, and that into rules inside, with one level less to go
abbrev pub decreases-step_rule : goal.decreases-step_rule
decreases-step_rule l = 4 * l.place.budget + 3

abbrev pub decreases-step_once : goal.decreases-step_once
decreases-step_once l = 4 * l.place.budget + 2

abbrev pub decreases-step_each : goal.decreases-step_each
decreases-step_each l = 4 * l.place.budget + 2

abbrev pub decreases-step_else : goal.decreases-step_else
decreases-step_else l = 4 * l.place.budget + 2

abbrev pub decreases-step_and : goal.decreases-step_and
decreases-step_and l = 4 * l.place.budget + 2

abbrev pub decreases-step_both : goal.decreases-step_both
decreases-step_both l = 4 * l.place.budget + 1

abbrev pub decreases-step_duties : goal.decreases-step_duties
decreases-step_duties l = 4 * l.place.budget + 4

abbrev pub invariant-step_duties-loop-rest : goal.invariant-step_duties-loop-rest
invariant-step_duties-loop-rest l = Goes (pure_rule l.duty) l.place l.below l.rest l.line l.initial.draft l.draft l.left

abbrev pub decreases-step_duties-loop-rest : goal.decreases-step_duties-loop-rest
decreases-step_duties-loop-rest l = length l.rest
