-- The plain account of a take and a skip: by the log and what waits, and by no state of an auditor. Assumes nothing.
use Rattle.std.specs.Prelude.{◌≡◌, ℕ, ◌<◌, ◌≤◌, Bool, if◌then◌else◌, ◌&&◌, List, [], ◌∷◌, ◌++◌, map, length, take, drop, Some, None, Ok, Err, Option, Result, ◌==◌, nat_le, nat_lt}
use Rattle.std.specs.Option.{option_map, unwrap_or}
use Rattle.feed.specs.declared.faults.Item.{Item}
use Rattle.feed.specs.declared.faults.Item.TheVariants as item
use Rattle.feed.specs.declared.lines.Line.{Line}
use Rattle.book.specs.Rules.{Rule}
use Rattle.duty.specs.Sheet.{book_sheet}
use Rattle.auditor.specs.declared.answers.Refusal.{Refusal}
use Rattle.auditor.specs.declared.answers.Refusal.TheVariants.{Faulty, Backdated, SheetFull, LogFull, Count, NothingWaits}
use Rattle.auditor.specs.declared.answers.Stop.{Stop}
use Rattle.auditor.specs.declared.answers.Stop.TheVariants.{Done, Dry, Refused}

-- the time of the last line, 0 before the first
abbrev pub latest : List Line → ℕ
latest [] = 0
latest (l ∷ []) = l.time
latest (l ∷ m ∷ ls) = latest (m ∷ ls)

-- the sheet of a log has its 256 places
abbrev pub fits : List Rule → List Line → Bool
fits rs log = nat_le (length (book_sheet rs log)) 256

-- why an item cannot be taken onto a log, if it cannot: a line is refused for its time, then for its sheet
abbrev pub item_refusal : List Rule → List Line → Item → Option Refusal
item_refusal rs log (item.Faulty x) = Some (Faulty x)
item_refusal rs log (item.Sound l) =
    if nat_lt l.time (latest log) then Some Backdated else (if fits rs (log ++ (l ∷ [])) then None else Some SheetFull)

-- the same, where a full log takes no item
abbrev pub refusal : List Rule → List Line → Item → Option Refusal
refusal rs log x = if nat_le 1000000 (length log) then Some LogFull else item_refusal rs log x

-- why a take stops before the first of the items that wait, if it does
abbrev pub stop_at : List Rule → List Line → List Item → Option Stop
stop_at rs log [] = Some Dry
stop_at rs log (x ∷ w) = option_map Refused (refusal rs log x)

abbrev pub unless : Option Refusal → List Line → List Line
unless None ls = ls
unless (Some x) ls = []

-- the longest beginning of w whose lines can be taken one after the other
unfoldable pub acceptable : List Rule → List Line → List Item → List Line
acceptable rs log [] = []
acceptable rs log (item.Faulty x ∷ w) = []
acceptable rs log (item.Sound l ∷ w) = unless (refusal rs log (item.Sound l)) (l ∷ acceptable rs (log ++ (l ∷ [])) w)

-- how a take goes: the lines that it takes to the log's end, why it stops, and what still waits
pub record Drawn : Type 0 where
  pub lines : List Line
  pub stop : Stop
  pub left : List Item

-- these lines, and done where they are c; else why no more is taken (a take that takes fewer is always stopped, as the law
-- below says, so that the last word `Done` is never used)
abbrev pub drawing : List Rule → ℕ → List Line → List Item → List Line → Drawn
drawing rs c log w ls =
    record {
      lines = ls;
      stop = if length ls == c then Done else unwrap_or (stop_at rs (log ++ ls) (drop (length ls) w)) Done;
      left = drop (length ls) w;
    }

-- the counts that a take may have: 1 to 4,096
abbrev pub count_in : ℕ → Bool
count_in c = nat_le 1 c && nat_le c 4096

-- a take of c lines takes the longest acceptable beginning, at most c; a count outside 1 to 4,096 is refused
abbrev pub takes : List Rule → ℕ → List Line → List Item → Drawn
takes rs c log w =
    if count_in c then drawing rs c log w (take c (acceptable rs log w)) else record { lines = []; stop = Refused Count; left = w }

-- The same in words. The lines leave the front of what waits, at most c; no take would stop before any of them. It is done exactly
-- when they are c; else it stops for what stops a take there.
pub record Takes (rs : List Rule) (c : ℕ) (log : List Line) (w : List Item) (d : Drawn) : Type 0 where
  pub front : w ≡ map item.Sound d.lines ++ d.left
  pub few : length d.lines ≤ c
  pub each : (n : ℕ) → n < length d.lines → stop_at rs (log ++ take n d.lines) (drop n w) ≡ None
  pub done : length d.lines ≡ c → d.stop ≡ Done
  pub stopped : length d.lines < c → stop_at rs (log ++ d.lines) d.left ≡ Some d.stop

-- the account of a take is the one way in which it can go so
pub record TakeLaw : Type 0 where
  pub goes : (rs : List Rule) (c : ℕ) (log : List Line) (w : List Item) → 1 ≤ c → c ≤ 4096 → Takes rs c log w (takes rs c log w)
  pub one_way : (rs : List Rule) (c : ℕ) (log : List Line) (w : List Item) (d : Drawn) → 1 ≤ c → c ≤ 4096 → Takes rs c log w d → d ≡ takes rs c log w

-- a skip is refused where nothing waits
abbrev pub skipping : List Item → Result (Unit {0}) Refusal
skipping [] = Err NothingWaits
skipping (x ∷ w) = Ok tt
