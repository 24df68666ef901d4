-- Waiting lists: what a look shows, what a drop leaves, and the merge of two. Assumes nothing.
use Rattle.std.specs.Prelude.{◌≡◌, Bool, true, false, if◌then◌else◌, List, [], ◌∷◌, Some, None, Option, nat_le}
use Rattle.feed.specs.declared.faults.Item.{Item}
use Rattle.feed.specs.declared.faults.Item.TheVariants.{Sound, Faulty}

-- the first item, what follows it, and whether there is one
abbrev pub first : List Item → Option Item
first [] = None
first (x ∷ xs) = Some x

abbrev pub later : List Item → List Item
later [] = []
later (x ∷ xs) = xs

abbrev pub any : List Item → Bool
any [] = false
any (x ∷ xs) = true

-- whether x, heading the left list, comes before y, heading the right: a fault comes first, the left
-- one before the right one; of two sound lines the one of the smaller time, the left on a tie
abbrev pub before : Item → Item → Bool
before (Faulty a) y = true
before (Sound a) (Faulty b) = false
before (Sound a) (Sound b) = nat_le a.time b.time

-- x and then what rest makes of the right list, behind those items of the right list that come before x
abbrev pub placed : Item → (List Item → List Item) → List Item → List Item
placed x rest [] = x ∷ rest []
placed x rest (y ∷ ys) = if before x y then x ∷ rest (y ∷ ys) else y ∷ placed x rest ys

-- two lists as one, by their heads; after one list the other follows unchanged
abbrev pub merged : List Item → List Item → List Item
merged [] ys = ys
merged (x ∷ xs) ys = placed x (merged xs) ys

-- whether the left list gives the next item
abbrev pub leads : Option Item → Option Item → Bool
leads None y = false
leads (Some x) None = true
leads (Some x) (Some y) = before x y

-- zs holds exactly the items of xs and those of ys, each in their order
pub data Interleaved : List Item → List Item → List Item → Type 0 where
  none : Interleaved [] [] []
  left : (x : Item) (xs ys zs : List Item) → Interleaved xs ys zs → Interleaved (x ∷ xs) ys (x ∷ zs)
  right : (y : Item) (xs ys zs : List Item) → Interleaved xs ys zs → Interleaved xs (y ∷ ys) (y ∷ zs)

-- the merge of two lists goes by their heads, loses nothing, and leaves what follows one list as it is
pub record Merge (xs ys : List Item) : Type 0 where
  pub heads : first (merged xs ys) ≡ (if leads (first xs) (first ys) then first xs else first ys)
  pub rest : later (merged xs ys) ≡ (if leads (first xs) (first ys) then merged (later xs) ys else merged xs (later ys))
  pub both : Interleaved xs ys (merged xs ys)
  pub left_alone : merged xs [] ≡ xs
  pub right_alone : merged [] ys ≡ ys
