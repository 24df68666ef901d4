-- The tokens of a text: the longest stretches from the left, past blanks and line feeds, each with its place.
use Rattle.std.specs.Prelude.{ℕ, zero, suc, ◌+◌, ◌-◌, Bool, true, false, if◌then◌else◌, ◌&&◌, ◌||◌, List, [], ◌∷◌, take, codes, ◌==◌, nat_le}
use Rattle.std.specs.List.{prefix_len}
use Rattle.tokens.specs.declared.token.Symbol.{Symbol}
use Rattle.tokens.specs.declared.token.Symbol.TheVariants.{AtMost, AtLeast, Equal, Plus, Times, Comma, Semicolon, Open, Close, OpenSquare, CloseSquare}

pub data Stretch : Type 0 where
  -- a run of letters
  word : List ℕ → Stretch
  -- a run of digits
  number : List ℕ → Stretch
  symbol : Symbol → Stretch
  -- a byte that no token has
  stray : Stretch
  -- the end of the text
  end : Stretch

-- A stretch with its place, the count of bytes before it.
pub record Placed : Type 0 where
  pub place : ℕ
  pub stretch : Stretch

abbrev pub placed : ℕ → Stretch → Placed
placed p s = record { place = p; stretch = s }

-- blanks and line feeds
abbrev pub is_blank : ℕ → Bool
is_blank b = b == 32 || b == 10

-- A to Z and a to z
abbrev pub is_letter : ℕ → Bool
is_letter b = nat_le 65 b && nat_le b 90 || nat_le 97 b && nat_le b 122

-- 0 to 9
abbrev pub is_digit : ℕ → Bool
is_digit b = nat_le 48 b && nat_le b 57

abbrev pub next_is : ℕ → List ℕ → Bool
next_is c [] = false
next_is c (b ∷ bs) = b == c

-- `<` or `>`, with which a symbol of two bytes begins
abbrev pub is_angle : ℕ → Bool
is_angle b = b == 60 || b == 62

-- how many bytes the stretch has that begins with b and goes on in bs
abbrev pub extent : ℕ → List ℕ → ℕ
extent b bs =
    if is_letter b then 1 + prefix_len is_letter bs else
    if is_digit b then 1 + prefix_len is_digit bs else
    if is_angle b && next_is 61 bs then 2 else 1

unfoldable pub same : List ℕ → List ℕ → Bool
same [] [] = true
same [] (c ∷ cs) = false
same (b ∷ bs) [] = false
same (b ∷ bs) (c ∷ cs) = b == c && same bs cs

-- the symbol that bytes write
unfoldable pub symbol_of : List ℕ → Stretch
symbol_of w =
    if same w (codes "<=") then symbol AtMost else
    if same w (codes ">=") then symbol AtLeast else
    if same w (codes "=") then symbol Equal else
    if same w (codes "+") then symbol Plus else
    if same w (codes "*") then symbol Times else
    if same w (codes ",") then symbol Comma else
    if same w (codes ";") then symbol Semicolon else
    if same w (codes "(") then symbol Open else
    if same w (codes ")") then symbol Close else
    if same w (codes "[") then symbol OpenSquare else
    if same w (codes "]") then symbol CloseSquare else
    stray

-- the stretch of the bytes w, of which b is the first
abbrev pub stretch_on : ℕ → List ℕ → Stretch
stretch_on b w = if is_letter b then word w else if is_digit b then number w else symbol_of w

-- the stretches from place p on, where the first k bytes belong to a stretch that has begun; the end is the last
abbrev pub stretches_from : ℕ → ℕ → List ℕ → List Placed
stretches_from p k [] = placed p end ∷ []
stretches_from p (suc k) (b ∷ bs) = stretches_from (p + 1) k bs
stretches_from p zero (b ∷ bs) =
    if is_blank b then stretches_from (p + 1) 0 bs else
    placed p (stretch_on b (take (extent b bs) (b ∷ bs))) ∷ stretches_from (p + 1) (extent b bs - 1) bs

abbrev pub stretches : List ℕ → List Placed
stretches = stretches_from 0 0

abbrev pub is_end : Stretch → Bool
is_end (word w) = false
is_end (number w) = false
is_end (symbol s) = false
is_end stray = false
is_end end = true
