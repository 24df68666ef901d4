-- Counts, and tallies of verdicts. Assumes nothing.
use Rattle.std.specs.Prelude.{ℕ, ◌+◌}
use Rattle.std.proofs.Math.Nat.{min-le_right}
use Rattle.duty.specs.declared.verdicts.Verdict.{Verdict}
use Rattle.duty.specs.declared.verdicts.Verdict.TheVariants.{Pending, Satisfied, Breached}
use Rattle.roundup.specs.Counts.{most, counted}
use Rattle.roundup.specs.declared.counts.Count.{Count}
use Rattle.roundup.specs.declared.tallies.Tally.{Tally}

-- the count with this number
unfoldable pub count_of : ℕ → Count
count_of n = record { number = counted n; within = min-le_right n most }

-- two counts added, up to the largest
abbrev pub count_sum : Count → Count → Count
count_sum c d = count_of (c.number + d.number)

-- the tally with these numbers as its counts
abbrev pub tally_of : (satisfied breached pending : ℕ) → Tally
tally_of s b p = record { satisfied = count_of s; breached = count_of b; pending = count_of p }

-- one in the place of the verdict
abbrev pub tally_of_one : Verdict → Tally
tally_of_one (Satisfied j) = tally_of 1 0 0
tally_of_one (Breached j) = tally_of 0 1 0
tally_of_one Pending = tally_of 0 0 1

-- each count added, up to the largest
abbrev pub sum_of : Tally → Tally → Tally
sum_of t u = tally_of (t.satisfied.number + u.satisfied.number) (t.breached.number + u.breached.number) (t.pending.number + u.pending.number)
