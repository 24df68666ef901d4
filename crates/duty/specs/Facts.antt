-- What the open sheet is like on every log. Assumes nothing.
use Rattle.std.specs.Prelude.{◌≡◌, ℕ, ◌<◌, ◌≤◌, List, [], ◌∷◌, length, ◌≢◌}
use Rattle.feed.specs.declared.lines.Line.{Line}
use Rattle.book.specs.Rules.{Rule}
use Rattle.book.specs.Sizes.{nodes, depth, all_nodes}
use Rattle.duty.specs.Verdicts.{verdict}
use Rattle.duty.specs.Sheet.{rule_sheet, book_sheet}
use Rattle.duty.specs.declared.verdicts.Verdict.TheVariants.{Pending}
use Rattle.duty.specs.declared.entries.Entry.{Entry}

-- every entry
abbrev pub All : (Entry → Type 0) → List Entry → Type 0
All P [] = Unit {0}
All P (e ∷ es) = P e × All P es

-- all deeper than level lev
abbrev pub Deeper : ℕ → List Entry → Type 0
Deeper lev es = All (λ e. lev < e.level) es

-- one entry at level lev, and deeper ones below it
abbrev pub Group : ℕ → List Entry → Type 0
Group lev [] = ⊥
Group lev (e ∷ es) = (e.level ≡ lev) × Deeper lev es

pub record SheetFacts : Type 0 where
  -- a rule has entries exactly while it is pending: one at level 0, and deeper ones below it
  pub pending : (r : Rule) (log : List Line) → verdict r log ≡ Pending → Group 0 (rule_sheet r log)
  pub decided : (r : Rule) (log : List Line) → (verdict r log ≢ Pending) → rule_sheet r log ≡ []
  -- every entry is one of the rule's nodes, and stands at a level below its depth
  pub within : (r : Rule) (log : List Line) → All (λ e. (1 ≤ e.node) × (e.node ≤ nodes r) × (e.level < depth r)) (rule_sheet r log)
  -- so no level reaches eight where at most eight nodes stand inside one another
  pub levels : (r : Rule) (log : List Line) → depth r ≤ 8 → All (λ e. e.level < 8) (rule_sheet r log)
  -- at the start a book needs no more places than it has nodes, so that 64 nodes fit
  pub starts : (rs : List Rule) → length (book_sheet rs []) ≤ all_nodes rs
  pub fits : (rs : List Rule) → all_nodes rs ≤ 64 → length (book_sheet rs []) ≤ 64
