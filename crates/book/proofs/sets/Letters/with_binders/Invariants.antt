use Rattle.std.proofs.Common.{◌≡◌, drop}
use Rattle.book.specs.Sets.{with_binders}
use Rattle.book.proofs.sets.Letters.with_binders.Given as goal

abbrev pub invariant-loop-binder : goal.invariant-loop-binder
invariant-loop-binder l = with_binders l.initial.all l.binders ≡ with_binders l.all (drop l.binder-index l.binders)
