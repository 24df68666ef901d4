-- Lines that no pattern of a rule matches. Assumes nothing.
use Rattle.std.specs.Prelude.{◌≡◌, ℕ, false, List, [], ◌∷◌, ◌++◌, is_some}
use Rattle.feed.specs.declared.lines.Line.{Line}
use Rattle.book.specs.Rules.{Pattern, Rule, duty, trigger, bracket}
use Rattle.duty.specs.Matching.{Bindings, matches}
use Rattle.duty.specs.Verdicts.{V}
use Rattle.duty.specs.Sheet.{sheet}

-- the pattern does not match the line, whichever letters are bound
abbrev pub Unmatched : Pattern → Line → Type 0
Unmatched p l = (f : Bindings) → is_some (matches p l f) ≡ false

-- nor does any pattern of the rule
abbrev pub Untouched : Rule → Line → Type 0
Untouched (duty k p q) l = Unmatched p l × Unmatched q l
Untouched (trigger k p q s) l = Unmatched p l × (Unmatched q l × Untouched s l)
Untouched (bracket k r s) l = Untouched r l × Untouched s l

-- nor does any of the rules
abbrev pub AllUntouched : List Rule → Line → Type 0
AllUntouched [] l = Unit {0}
AllUntouched (r ∷ rs) l = Untouched r l × AllUntouched rs l

-- such a line changes neither the verdict of the rule nor its sheet
pub record UntouchedStays : Type 0 where
  pub verdict : (r : Rule) (l : Line) → Untouched r l → (f : Bindings) (i : ℕ) (ls : List Line) → V r f i (ls ++ (l ∷ [])) ≡ V r f i ls
  pub sheets : (r : Rule) (l : Line) → Untouched r l → (n lev : ℕ) (f : Bindings) (i : ℕ) (ls : List Line) → sheet r n lev f i (ls ++ (l ∷ [])) ≡ sheet r n lev f i ls
