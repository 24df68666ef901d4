-- The laws of the join. Assumes nothing.
use Rattle.std.specs.Prelude.{◌≡◌}
use Rattle.duty.specs.Verdicts.{join}
use Rattle.duty.specs.declared.verdicts.Verdict.{Verdict}
use Rattle.duty.specs.declared.verdicts.Verdict.TheVariants.{Satisfied}

-- it may be regrouped and its sides exchanged, and 'satisfied at 0' adds nothing
pub record JoinLaws : Type 0 where
  pub exchanged : (u v : Verdict) → join u v ≡ join v u
  pub regrouped : (u v w : Verdict) → join (join u v) w ≡ join u (join v w)
  pub neutral : (v : Verdict) → join (Satisfied 0) v ≡ v
