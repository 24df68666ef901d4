-- The laws of the join, and verdicts that are decided at line i or later.
use Rattle.std.proofs.Common.{◌≡◌, ℕ, suc, ◌≤◌, refl, ap, arith}
use Rattle.duty.specs.Verdicts.{join}
use Rattle.duty.specs.Joins.{JoinLaws}
use Rattle.duty.specs.declared.verdicts.Verdict.{Verdict}
use Rattle.duty.specs.declared.verdicts.Verdict.TheVariants.{Pending, Satisfied, Breached}

pub join_comm : (u v : Verdict) → join u v ≡ join v u
join_comm (Breached i) (Breached j) = ap Breached (omega arith)
join_comm (Breached i) Pending = refl
join_comm (Breached i) (Satisfied j) = refl
join_comm Pending (Breached j) = refl
join_comm Pending Pending = refl
join_comm Pending (Satisfied j) = refl
join_comm (Satisfied i) (Breached j) = refl
join_comm (Satisfied i) Pending = refl
join_comm (Satisfied i) (Satisfied j) = ap Satisfied (omega arith)

pub join_assoc : (u v w : Verdict) → join (join u v) w ≡ join u (join v w)
join_assoc (Breached i) (Breached j) (Breached k) = ap Breached (omega arith)
join_assoc (Breached i) (Breached j) Pending = refl
join_assoc (Breached i) (Breached j) (Satisfied k) = refl
join_assoc (Breached i) Pending (Breached k) = refl
join_assoc (Breached i) Pending Pending = refl
join_assoc (Breached i) Pending (Satisfied k) = refl
join_assoc (Breached i) (Satisfied j) (Breached k) = refl
join_assoc (Breached i) (Satisfied j) Pending = refl
join_assoc (Breached i) (Satisfied j) (Satisfied k) = refl
join_assoc Pending (Breached j) (Breached k) = refl
join_assoc Pending (Breached j) Pending = refl
join_assoc Pending (Breached j) (Satisfied k) = refl
join_assoc Pending Pending (Breached k) = refl
join_assoc Pending Pending Pending = refl
join_assoc Pending Pending (Satisfied k) = refl
join_assoc Pending (Satisfied j) (Breached k) = refl
join_assoc Pending (Satisfied j) Pending = refl
join_assoc Pending (Satisfied j) (Satisfied k) = refl
join_assoc (Satisfied i) (Breached j) (Breached k) = refl
join_assoc (Satisfied i) (Breached j) Pending = refl
join_assoc (Satisfied i) (Breached j) (Satisfied k) = refl
join_assoc (Satisfied i) Pending (Breached k) = refl
join_assoc (Satisfied i) Pending Pending = refl
join_assoc (Satisfied i) Pending (Satisfied k) = refl
join_assoc (Satisfied i) (Satisfied j) (Breached k) = refl
join_assoc (Satisfied i) (Satisfied j) Pending = refl
join_assoc (Satisfied i) (Satisfied j) (Satisfied k) = ap Satisfied (omega arith)

pub join-neutral : (v : Verdict) → join (Satisfied 0) v ≡ v
join-neutral Pending = refl
join-neutral (Satisfied j) = ap Satisfied (omega arith)
join-neutral (Breached j) = refl

pub join_laws : JoinLaws
join_laws = record { exchanged = join_comm; regrouped = join_assoc; neutral = join-neutral }

-- decided, if at all, at line i or later
abbrev pub Late : ℕ → Verdict → Type 0
Late i Pending = Unit {0}
Late i (Satisfied j) = i ≤ j
Late i (Breached j) = i ≤ j

pub late_less : (i : ℕ) (v : Verdict) → Late (suc i) v → Late i v
late_less i Pending h = tt
late_less i (Satisfied j) h = omega arith
late_less i (Breached j) h = omega arith

pub late_join : (i : ℕ) (u v : Verdict) → Late i u → Late i v → Late i (join u v)
late_join i (Breached j) (Breached k) h h' = omega arith
late_join i (Breached j) Pending h h' = h
late_join i (Breached j) (Satisfied k) h h' = h
late_join i Pending (Breached k) h h' = h'
late_join i Pending Pending h h' = tt
late_join i Pending (Satisfied k) h h' = tt
late_join i (Satisfied j) (Breached k) h h' = h'
late_join i (Satisfied j) Pending h h' = tt
late_join i (Satisfied j) (Satisfied k) h h' = omega arith

pub missed_first : (i : ℕ) (v : Verdict) → Late i v → join (Breached i) v ≡ Breached i
missed_first i Pending h = refl
missed_first i (Satisfied j) h = refl
missed_first i (Breached j) h = ap Breached (omega arith)

pub met-first : (i : ℕ) (v : Verdict) → Late i v → join (Satisfied i) v ≡ v
met-first i Pending h = refl
met-first i (Satisfied j) h = ap Satisfied (omega arith)
met-first i (Breached j) h = refl
