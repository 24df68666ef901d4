-- The letters that the entries of a rule carry, on every log. Assumes nothing.
use Rattle.std.specs.Prelude.{◌≡◌, ℕ, suc, ◌+◌, ◌⊎◌, List, [], ◌∷◌, Some}
use Rattle.feed.specs.declared.lines.Line.{Line}
use Rattle.book.specs.Rules.{Rule, duty, trigger, bracket}
use Rattle.book.specs.Sizes.{nodes}
use Rattle.duty.specs.Matching.{Bindings, matches}
use Rattle.duty.specs.Sheet.{sheet}
use Rattle.duty.specs.Facts.{All}
use Rattle.duty.specs.declared.entries.Entry.{Entry}

-- some line of the log, with the lines after it
abbrev pub SomeLine : (Line → List Line → Type 0) → List Line → Type 0
SomeLine P [] = ⊥
SomeLine P (l ∷ ls) = P l ls ⊎ SomeLine P ls

-- An entry of a rule under f: its own node carries f, the letters from outside. In the duty of a trigger, the
-- letters are those that the match of the trigger's first pattern gave, at the line that opened the duty, and
-- the entry is one of that duty from then on. A rule in a bracket runs under the bracket's own letters.
abbrev pub Carries : Rule → ℕ → Bindings → Entry → List Line → Type 0
Carries (duty k p q) n f e ls = (e.node ≡ n) × (e.letters ≡ f)
Carries (trigger k p q s) n f e ls =
    ((e.node ≡ n) × (e.letters ≡ f))
    ⊎ SomeLine (λ l later. (g : Bindings) × (matches p l f ≡ Some g) × Carries s (suc n) g e later) ls
Carries (bracket k r s) n f e ls =
    ((e.node ≡ n) × (e.letters ≡ f)) ⊎ (Carries r (suc n) f e ls ⊎ Carries s (suc n + nodes r) f e ls)

-- node m of a rule whose own node is n stands in no trigger's duty
abbrev pub Outside : Rule → ℕ → ℕ → Type 0
Outside (duty k p q) n m = m ≡ n
Outside (trigger k p q s) n m = m ≡ n
Outside (bracket k r s) n m = (m ≡ n) ⊎ (Outside r (suc n) m ⊎ Outside s (suc n + nodes r) m)

pub record LettersStay : Type 0 where
  -- a duty's letters are those of its opening line, on every log that goes on from there
  pub opened : (r : Rule) (n lev : ℕ) (f : Bindings) (i : ℕ) (ls : List Line) → All (λ e. Carries r n f e ls) (sheet r n lev f i ls)
  -- outside the duties of triggers, the letters are those from before
  pub outside : (r : Rule) (n lev : ℕ) (f : Bindings) (i : ℕ) (ls : List Line) → All (λ e. Outside r n e.node → e.letters ≡ f) (sheet r n lev f i ls)
