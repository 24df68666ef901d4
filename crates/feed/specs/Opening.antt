-- Opening a feed over an input. Assumes nothing.
use Rattle.std.specs.Prelude.{ℕ, Bool, if◌then◌else◌, ◌||◌, Some, None, Option, nat_lt}
use Rattle.feed.specs.declared.inputs.OpenRefusal.{OpenRefusal}
use Rattle.feed.specs.declared.inputs.OpenRefusal.TheVariants.{Station, FirstItem, InputLength}

-- whether n lies outside low to high
abbrev pub outside : ℕ → ℕ → ℕ → Bool
outside low high n = nat_lt n low || nat_lt high n

-- why an opening is refused, if it is: the station (1 to 9,999) is tested first, then the number of the
-- first item (1 to 9,990,000), then the length of the input (at most `most` units)
abbrev pub refusal : (most station first len : ℕ) → Option OpenRefusal
refusal most station first len =
    if outside 1 9999 station then Some Station else
    if outside 1 9990000 first then Some FirstItem else
    if nat_lt most len then Some InputLength else None

-- each is refused by one number
abbrev pub open_number : OpenRefusal → ℕ
open_number Station = 44
open_number FirstItem = 44
open_number InputLength = 44
