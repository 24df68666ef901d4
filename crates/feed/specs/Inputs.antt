-- Items cut from a feed's input. Assumes nothing.
use Rattle.std.specs.Prelude.{◌≡◌, ℕ, zero, suc, ◌+◌, ◌-◌, ◌/◌, ◌<◌, min, List, [], ◌∷◌, ◌++◌, length, take, drop, Ok, Err, Result}
use Rattle.feed.specs.declared.faults.FaultKind.{FaultKind}
use Rattle.feed.specs.declared.faults.Item.{Item}
use Rattle.feed.specs.declared.faults.Item.TheVariants.{Sound, Faulty}
use Rattle.feed.specs.declared.lines.Line.{Line}

-- an input cut from the start into pieces of w; what remains is one last piece. (There are no more
-- pieces than the input has units, and that many are allowed for.)
abbrev pub cut_in : {X : Type 0} → ℕ → ℕ → List X → List (List X)
cut_in zero w xs = []
cut_in (suc n) w [] = []
cut_in (suc n) w (x ∷ xs) = take w (x ∷ xs) ∷ cut_in n w (drop w (x ∷ xs))

abbrev pub cut : {X : Type 0} → ℕ → List X → List (List X)
cut w xs = cut_in (length xs) w xs

-- ps are the pieces of w that xs is cut into from the start, with what remains, if anything, as the last
pub data Pieces {X : Type 0} (w : ℕ) : List X → List (List X) → Type 0 where
  none : Pieces w [] []
  remainder : (p : List X) → 0 < length p → length p < w → Pieces w p (p ∷ [])
  piece : (p xs : List X) (ps : List (List X)) → length p ≡ w → Pieces w xs ps → Pieces w (p ++ xs) (p ∷ ps)

-- how many pieces of w an input of a length has
abbrev pub piece_count : ℕ → ℕ → ℕ
piece_count w len = (len + (w - 1)) / w

-- what a piece reads as, as item number n of a station
abbrev pub item_of : ℕ → ℕ → Result Line FaultKind → Item
item_of station n (Ok l) = Sound l
item_of station n (Err k) = Faulty (record { kind = k; station = station; item = n })

-- items are counted up to the largest number of 64 bits
abbrev pub counted : ℕ → ℕ
counted n = min n 18446744073709551615

-- the pieces as items, numbered from n
abbrev pub numbered : {X : Type 0} → (List X → Result Line FaultKind) → ℕ → ℕ → List (List X) → List Item
numbered reads station n [] = []
numbered reads station n (p ∷ ps) = item_of station n (reads p) ∷ numbered reads station (counted (n + 1)) ps

-- the items of an input
unfoldable pub items_of : {X : Type 0} → (List X → Result Line FaultKind) → ℕ → ℕ → ℕ → List X → List Item
items_of reads w station n input = numbered reads station n (cut w input)
