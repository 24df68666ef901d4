-- The step over the rules of a book. Assumes nothing.
use Rattle.std.specs.Prelude.{◌≡◌, ℕ, suc, List, [], ◌∷◌, ◌++◌, length}
use Rattle.feed.specs.declared.lines.Line.{Line}
use Rattle.book.specs.Rules.{Rule}
use Rattle.duty.specs.Verdicts.{verdict, verdicts}
use Rattle.duty.specs.Sheet.{rule_sheet, book_sheet}
use Rattle.duty.specs.Drafts.{Adds}
use Rattle.duty.specs.declared.drafts.Draft.{Draft}
use Rattle.duty.specs.declared.entries.Entry.{Entry}
use Rattle.duty.specs.declared.judging.Judged.{Judged}
use Rattle.duty.specs.declared.outcomes.Outcome.{Outcome}
use Rattle.duty.specs.declared.outcomes.Outcome.TheVariants as outcome
use Rattle.duty.specs.declared.verdicts.Verdict.{Verdict}
use Rattle.duty.specs.declared.verdicts.Verdict.TheVariants.{Pending, Satisfied, Breached}

-- the verdict of an outcome at line i
abbrev pub verdict_at : Outcome → ℕ → Verdict
verdict_at outcome.Satisfied i = Satisfied i
verdict_at outcome.Breached i = Breached i
verdict_at outcome.Open i = Pending

-- one rule, whose entries the sheet begins with
pub record JudgedRule (r : Rule) (log : List Line) (rs : List Rule) (d d' : Draft) (j : Judged) (longer : List Line) : Type 0 where
  pub verdict_is : j.verdict ≡ verdict r longer
  pub written : Adds d d' (rule_sheet r longer)
  pub ahead : j.rest.now ≡ book_sheet rs log

abbrev pub Judges : Rule → Verdict → List Entry → Line → ℕ → Draft → Judged → Draft → Type 0
Judges r v es l i d j d' =
    (log : List Line) (rs : List Rule) → suc (length log) ≡ i → v ≡ verdict r log → es ≡ rule_sheet r log ++ book_sheet rs log
    → JudgedRule r log rs d d' j (log ++ (l ∷ []))

-- all rules
pub record JudgedRules (rs : List Rule) (longer : List Line) (vs vs' : List Verdict) (d d' : Draft) : Type 0 where
  pub judged : vs' ≡ vs ++ verdicts rs longer
  pub written : Adds d d' (book_sheet rs longer)

abbrev pub JudgesAll : List Rule → List Verdict → List Entry → Line → ℕ → List Verdict → Draft → List Verdict → Draft → Type 0
JudgesAll rs olds es l i vs d vs' d' =
    (log : List Line) → suc (length log) ≡ i → olds ≡ verdicts rs log → es ≡ book_sheet rs log → JudgedRules rs (log ++ (l ∷ [])) vs vs' d d'
