-- A verdict that is given stays. Assumes nothing.
use Rattle.std.specs.Prelude.{◌≡◌, ℕ, ◌<◌, ◌≤◌, ◌⊎◌, List, length, take}
use Rattle.feed.specs.declared.lines.Line.{Line}
use Rattle.book.specs.Rules.{Rule}
use Rattle.duty.specs.Matching.{Bindings}
use Rattle.duty.specs.Verdicts.{V}
use Rattle.duty.specs.declared.verdicts.Verdict.{Verdict}
use Rattle.duty.specs.declared.verdicts.Verdict.TheVariants.{Pending, Satisfied, Breached}

abbrev pub DecidedAt : Verdict → ℕ → Type 0
DecidedAt v j = (v ≡ Satisfied j) ⊎ (v ≡ Breached j)

pub record Final (r : Rule) (f : Bindings) (log : List Line) (j : ℕ) : Type 0 where
  -- the deciding line is one of the log's
  pub within : (1 ≤ j) × (j ≤ length log)
  -- every log that begins with the same j lines has the same verdict
  pub stays : (other : List Line) → take j other ≡ take j log → V r f 1 other ≡ V r f 1 log
  -- every shorter beginning is pending
  pub not_before : (m : ℕ) → m < j → V r f 1 (take m log) ≡ Pending

abbrev pub Finality : Type 0
Finality = (r : Rule) (f : Bindings) (log : List Line) (j : ℕ) → DecidedAt (V r f 1 log) j → Final r f log j
