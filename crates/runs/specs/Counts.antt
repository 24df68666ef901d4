-- What an observer that counts turns keeps of the moments that it was shown. Assumes nothing.
use Rattle.std.specs.Prelude.{◌≡◌, ℕ, suc, min, if◌then◌else◌, List, [], ◌∷◌}
use Rattle.runs.specs.Turns.{same_side, Moment}
use Rattle.runs.specs.declared.calls.Side.{Side}
use Rattle.runs.specs.declared.calls.Side.TheVariants.{First, Second}

-- how many of the moments came after a turn of this side
abbrev pub moments_of : Side → List Moment → ℕ
moments_of x [] = 0
moments_of x (m ∷ ms) = if same_side x m.whose then suc (moments_of x ms) else moments_of x ms

-- the largest count
abbrev pub most_counted : ℕ
most_counted = 18446744073709551615

pub record Counts (first second : ℕ) (ms : List Moment) : Type 0 where
  pub firsts : first ≡ min (moments_of First ms) most_counted
  pub seconds : second ≡ min (moments_of Second ms) most_counted
