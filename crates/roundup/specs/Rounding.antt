-- The round-up of a stretch of results. Assumes nothing.
use Rattle.std.specs.Prelude.{◌≡◌, ℕ, ◌+◌, if◌then◌else◌, List, [], ◌∷◌, length, take, drop, Ok, Err, Result, nat_le}
use Rattle.roundup.specs.declared.rounding.OutsideResults.{OutsideResults}

-- the number of the refusal
abbrev pub outside_number : OutsideResults → ℕ
outside_number refusal = 45

module _ {K : Type 0} (join : K → K → K) (neutral : K) where
  -- the results joined in order, the neutral result where there are none
  abbrev pub joined_all : List K → K
  joined_all [] = neutral
  joined_all (x ∷ xs) = join x (joined_all xs)

  -- the join of count results from start on, refused where they reach beyond the results
  abbrev pub round_up : List K → (start count : ℕ) → Result K OutsideResults
  round_up results start count =
      if nat_le (start + count) (length results) then Ok (joined_all (take count (drop start results))) else Err (record {})

  -- a stretch cut in two, after m results, and the two round-ups joined
  pub record CutInTwo : Type 0 where
    pub joins : (xs : List K) (m n : ℕ) → joined_all (take (m + n) xs) ≡ join (joined_all (take m xs)) (joined_all (take n (drop m xs)))
    pub answers : (results : List K) (start m n : ℕ) (x y : K) → round_up results start m ≡ Ok x → round_up results (start + m) n ≡ Ok y → round_up results start (m + n) ≡ Ok (join x y)
