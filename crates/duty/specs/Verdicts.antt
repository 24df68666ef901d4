-- The verdict of a rule on a log. Assumes nothing.
use Rattle.std.specs.Prelude.{ℕ, suc, ◌-◌, min, max, List, [], ◌∷◌, map, drop}
use Rattle.feed.specs.declared.lines.Line.{Line}
use Rattle.book.specs.Rules.{Pattern, Rule, duty, trigger, bracket}
use Rattle.book.specs.declared.terms.DutyKind.{DutyKind}
use Rattle.book.specs.declared.terms.DutyKind.TheVariants.{Must, MustNot}
use Rattle.book.specs.declared.terms.TriggerKind.{TriggerKind}
use Rattle.book.specs.declared.terms.TriggerKind.TheVariants.{Each, Once}
use Rattle.book.specs.declared.terms.BracketKind.TheVariants.{Else, And}
use Rattle.duty.specs.Matching.{Bindings, unbound, effect}
use Rattle.duty.specs.declared.matching.Effect.{Effect}
use Rattle.duty.specs.declared.matching.Effect.TheVariants.{Ends, Acts, Passes}
use Rattle.duty.specs.declared.verdicts.Verdict.{Verdict}
use Rattle.duty.specs.declared.verdicts.Verdict.TheVariants.{Pending, Satisfied, Breached}

-- the number of a verdict, and the line that decided it, 0 while there is none
abbrev pub verdict_numbers : Verdict → ℕ × ℕ
verdict_numbers Pending = (0, 0)
verdict_numbers (Satisfied j) = (1, j)
verdict_numbers (Breached j) = (2, j)

-- breached at the smallest breaching line if either is breached; else pending if either is; else satisfied
-- at the larger line
abbrev pub join : Verdict → Verdict → Verdict
join (Breached i) (Breached j) = Breached (min i j)
join (Breached i) Pending = Breached i
join (Breached i) (Satisfied j) = Breached i
join Pending (Breached j) = Breached j
join Pending Pending = Pending
join Pending (Satisfied j) = Pending
join (Satisfied i) (Breached j) = Breached j
join (Satisfied i) Pending = Pending
join (Satisfied i) (Satisfied j) = Satisfied (max i j)

-- What each kind of rule says at line i, given what the line does to it, and what holds from line i + 1 on.
abbrev pub duty_at : DutyKind → ℕ → Effect → Verdict → Verdict
duty_at Must i Ends later = Breached i
duty_at Must i (Acts g) later = Satisfied i
duty_at Must i Passes later = later
duty_at MustNot i Ends later = Satisfied i
duty_at MustNot i (Acts g) later = Breached i
duty_at MustNot i Passes later = later

abbrev pub trigger_at : TriggerKind → ℕ → Effect → (Bindings → Verdict) → Verdict → Verdict
trigger_at Once i Ends opened later = Satisfied i
trigger_at Once i (Acts g) opened later = opened g
trigger_at Once i Passes opened later = later
trigger_at Each i Ends opened later = Satisfied i
trigger_at Each i (Acts g) opened later = join (opened g) later
trigger_at Each i Passes opened later = later

-- the second rule is given the line that breached the first
abbrev pub else_at : Verdict → (ℕ → Verdict) → Verdict
else_at Pending second = Pending
else_at (Satisfied j) second = Satisfied j
else_at (Breached j) second = second j

-- A rule's verdict under bindings from line i on, of the log's lines from line i on.
abbrev pub Judge : Type 0
Judge = Bindings → ℕ → List Line → Verdict

abbrev pub duty_v : DutyKind → Pattern → Pattern → Judge
duty_v k p q f i [] = Pending
duty_v k p q f i (l ∷ ls) = duty_at k i (effect p q f l) (duty_v k p q f (suc i) ls)

abbrev pub trigger_v : TriggerKind → Pattern → Pattern → Judge → Judge
trigger_v k p q s f i [] = Pending
trigger_v k p q s f i (l ∷ ls) = trigger_at k i (effect p q f l) (λ g. s g (suc i) ls) (trigger_v k p q s f (suc i) ls)

-- V r f i ls: ls are the lines from line i on
unfoldable pub V : Rule → Judge
V (duty k p q) f i ls = duty_v k p q f i ls
V (trigger k p q s) f i ls = trigger_v k p q (V s) f i ls
V (bracket Else r s) f i ls = else_at (V r f i ls) (λ j. V s f (suc j) (drop (suc j - i) ls))
V (bracket And r s) f i ls = join (V r f i ls) (V s f i ls)

-- a rule of a book is judged from line 1 on, with no letter bound
abbrev pub verdict : Rule → List Line → Verdict
verdict r log = V r unbound 1 log

abbrev pub verdicts : List Rule → List Line → List Verdict
verdicts rs log = map (λ r. verdict r log) rs
