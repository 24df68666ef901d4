-- A column from its right end. Assumes nothing.
use Rattle.std.specs.Prelude.{ℕ, zero, suc, ◌+◌, ◌/◌, ◌%◌, if◌then◌else◌, List, [], ◌∷◌, ◌++◌, Some, None, Option, nat_le}

-- the last byte of a number, or a blank
abbrev pub last_byte : Option ℕ → ℕ
last_byte None = 32
last_byte (Some n) = 48 + n % 10

-- what stands in front of the last byte: the other digits, if there are any
abbrev pub in_front : Option ℕ → Option ℕ
in_front None = None
in_front (Some n) = if nat_le 10 n then Some (n / 10) else None

-- a column of w bytes
unfoldable pub aligned : ℕ → Option ℕ → List ℕ
aligned zero x = []
aligned (suc w) x = aligned w (in_front x) ++ (last_byte x ∷ [])
