-- Numbers in columns. Assumes nothing.
use Rattle.std.specs.Prelude.{ℕ, List, ◌++◌, length, drop, replicate, Some, None, decimal, Option}

-- w blanks
abbrev pub blanks : ℕ → List ℕ
blanks w = replicate w 32

-- a number in w bytes: its digits behind blanks, or its last w digits where it has more
unfoldable pub column : ℕ → ℕ → List ℕ
column w n = drop (length (decimal n)) (blanks w ++ decimal n)

-- a number, or all blank where there is none
abbrev pub cell : ℕ → Option ℕ → List ℕ
cell w None = blanks w
cell w (Some n) = column w n
