-- One more line, from what is open alone. Assumes nothing.
use Rattle.std.specs.Prelude.{◌≡◌, ℕ, suc, List, [], ◌∷◌, ◌++◌, length}
use Rattle.feed.specs.declared.lines.Line.{Line}
use Rattle.book.specs.Rules.{Rule}
use Rattle.duty.specs.Matching.{Bindings}
use Rattle.duty.specs.Verdicts.{V}
use Rattle.duty.specs.Sheet.{sheet}
use Rattle.duty.specs.Open.{Open, step, decide, entries, shown}
use Rattle.duty.specs.declared.verdicts.Verdict.TheVariants.{Pending}

-- A pending rule has something open, whose entries are its sheet; and the step of that by any line gives the
-- verdict and the sheet of the log with that line.
pub record Stepped (r : Rule) (f : Bindings) (log : List Line) : Type 0 where
  pub left_open : Open r
  pub listed : (n lev : ℕ) → sheet r n lev f 1 log ≡ entries r n lev left_open
  pub verdict : (l : Line) → V r f 1 (log ++ (l ∷ [])) ≡ decide (suc (length log)) (step r left_open l) (λ o. Pending)
  pub sheets : (l : Line) (n lev : ℕ) → sheet r n lev f 1 (log ++ (l ∷ [])) ≡ shown (entries r n lev) (step r left_open l)

abbrev pub StepsRight : Type 0
StepsRight = (r : Rule) (f : Bindings) (log : List Line) → V r f 1 log ≡ Pending → Stepped r f log
