-- The counts of a tally. Assumes nothing.
use Rattle.std.specs.Prelude.{ℕ, min}

-- the largest count
abbrev pub most : ℕ
most = 999999

-- a number read as a count
abbrev pub counted : ℕ → ℕ
counted n = min n most
