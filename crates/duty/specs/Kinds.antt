-- Which lines a set of kinds leaves out. Assumes nothing.
use Rattle.std.specs.Prelude.{◌≡◌, ℕ, Bool, true, false, List, slice_index_or}
use Rattle.std.specs.List.{AllZip}
use Rattle.feed.specs.declared.lines.Line.{Line}
use Rattle.book.specs.Rules.{Rule}
use Rattle.duty.specs.Untouched.{Untouched, AllUntouched}
use Rattle.duty.specs.declared.kinds.Kinds.{Kinds}

-- the kind is in the set
abbrev pub has_kind : Kinds → ℕ → Bool
has_kind ks k = slice_index_or ks.listed k true

-- the line's kind is not in the set
abbrev pub LeftOut : Kinds → Line → Type 0
LeftOut ks l = has_kind ks l.kind ≡ false

-- the set has grown, and the lines that it still leaves out are such lines
abbrev pub Widened : Kinds → Kinds → (Line → Type 0) → Type 0
Widened ks ks' Such = (l : Line) → LeftOut ks' l → LeftOut ks l × Such l

-- a line that the set leaves out is matched by no pattern of the rule
abbrev pub Covers : Kinds → Rule → Type 0
Covers ks r = (l : Line) → LeftOut ks l → Untouched r l

-- nor of any of the rules
abbrev pub CoversAll : Kinds → List Rule → Type 0
CoversAll ks rs = (l : Line) → LeftOut ks l → AllUntouched rs l

-- each rule has a set of its own
abbrev pub CoversEach : List Kinds → List Rule → Type 0
CoversEach kss rs = AllZip Covers kss rs
