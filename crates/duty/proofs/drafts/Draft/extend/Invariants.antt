use Rattle.std.proofs.Common.{take}
use Rattle.duty.specs.Drafts.{Adds}
use Rattle.duty.proofs.drafts.Draft.extend.Given as goal

abbrev pub invariant-loop-entry : goal.invariant-loop-entry
invariant-loop-entry l = Adds l.initial.self l.self (take l.entry-index l.entries)
