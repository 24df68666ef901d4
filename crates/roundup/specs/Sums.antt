-- Counts that have the same number are the same, tallies that have the same counts are the same, and what follows for the sum of tallies. Assumes nothing.
use Rattle.std.specs.Prelude.{◌≡◌, ◌≤◌}
use mathlib.Core.HLevel.{is_prop→PathP}
use Rattle.std.proofs.Math.Bridge.{le_prop}
use Rattle.std.proofs.Common.{arith}
use Rattle.roundup.specs.Counts.{most}
use Rattle.roundup.specs.Tallies.{count_of, count_sum, tally_of, sum_of}
use Rattle.roundup.specs.declared.counts.Count.{Count}
use Rattle.roundup.specs.declared.tallies.Tally.{Tally}

pub same_number : (c d : Count) → c.number ≡ d.number → c ≡ d
same_number c d e = λ i. record { number = e i; within = is_prop→PathP (λ j. e j ≤ most) (λ j. le_prop) c.within d.within i }

pub same_counts : (t u : Tally) → t.satisfied.number ≡ u.satisfied.number → t.breached.number ≡ u.breached.number → t.pending.number ≡ u.pending.number → t ≡ u
same_counts t u s b p = λ i. record {
  satisfied = same_number t.satisfied u.satisfied s i;
  breached = same_number t.breached u.breached b i;
  pending = same_number t.pending u.pending p i;
}

exchanged : (c d : Count) → count_sum c d ≡ count_sum d c
unfolding count_of
exchanged c d = same_number _ _ (omega arith)

regrouped : (c d e : Count) → count_sum (count_sum c d) e ≡ count_sum c (count_sum d e)
unfolding count_of
regrouped c d e = same_number _ _ (omega arith)

unchanged : (c : Count) → count_sum (count_of 0) c ≡ c
unfolding count_of
unchanged c = same_number _ _ (omega (arith, c.within))

pub sums_exchanged : (t u : Tally) → sum_of t u ≡ sum_of u t
sums_exchanged t u = λ i. record {
  satisfied = exchanged t.satisfied u.satisfied i;
  breached = exchanged t.breached u.breached i;
  pending = exchanged t.pending u.pending i;
}

pub sums_regrouped : (t u v : Tally) → sum_of (sum_of t u) v ≡ sum_of t (sum_of u v)
sums_regrouped t u v = λ i. record {
  satisfied = regrouped t.satisfied u.satisfied v.satisfied i;
  breached = regrouped t.breached u.breached v.breached i;
  pending = regrouped t.pending u.pending v.pending i;
}

pub sums_unchanged : (t : Tally) → sum_of (tally_of 0 0 0) t ≡ t
sums_unchanged t = λ i. record {
  satisfied = unchanged t.satisfied i;
  breached = unchanged t.breached i;
  pending = unchanged t.pending i;
}
